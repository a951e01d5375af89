use Rattle.std.proofs.Common.{◌≡◌, length, map}
use Rattle.cu_flatread.specs.Inside.Words.{one_of, one_of_words}
use Rattle.cu_flatread.proofs.cursor.Cursor.one_of.Given as goal

abbrev pub invariant-loop-left : goal.invariant-loop-left
invariant-loop-left g l = (one_of_words (map (λ w. (w.0.now, w.1)) l.left) l.self.rest.now l.least ≡ one_of (map (λ w. (w.0.now, w.1)) l.fn.words) l.fn.self.rest.now) × (l.self.rest.now ≡ l.fn.self.rest.now)

abbrev pub decreases-loop-left : goal.decreases-loop-left
decreases-loop-left g l = length l.left
