use Rattle.std.proofs.Common.{◌≡◌, ◌≤◌, length}
use Rattle.cu_flatread.specs.Inside.Numbers.{digits_at}
use Rattle.cu_flatread.proofs.cursor.Cursor.digits.Given as goal

abbrev pub invariant-loop-self : goal.invariant-loop-self
invariant-loop-self l = (digits_at l.most l.value l.self.rest.now ≡ digits_at l.fn.most l.fn.read l.fn.self.rest.now) × (l.fn.read ≤ l.value) × (l.value ≤ l.most) × (length l.self.rest.now ≤ length l.fn.self.rest.now)

abbrev pub decreases-loop-self : goal.decreases-loop-self
decreases-loop-self l = length l.self.rest.now
