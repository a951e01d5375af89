use Rattle.std.proofs.Common.{◌≡◌, ◌≤◌, length}
use Rattle.cu_flatread.specs.Inside.Names.{text_at, with_front}
use Rattle.cu_flatread.specs.declared.quoted.Within.TheVariants as within
use Rattle.cu_flatread.proofs.cursor.Cursor.text.Given as goal

abbrev pub invariant-loop-self : goal.invariant-loop-self
invariant-loop-self l = (with_front l.text.items (text_at l.place l.self.rest.now) ≡ text_at within.Between l.fn.self.rest.now) × (length l.self.rest.now ≤ length l.fn.self.rest.now)

abbrev pub decreases-loop-self : goal.decreases-loop-self
decreases-loop-self l = length l.self.rest.now
