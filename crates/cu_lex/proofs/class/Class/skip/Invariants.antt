use Rattle.std.proofs.Common.{◌≡◌, length}
use Rattle.cu_lex.specs.Inside.Scanning.{has, left, skip}
use Rattle.cu_lex.proofs.class.Class.skip.Given as goal

abbrev pub invariant-loop-self : goal.invariant-loop-self
invariant-loop-self l = skip (has l.self) (left l.rest) ≡ skip (has l.self) (left l.cursor)

abbrev pub decreases-loop-self : goal.decreases-loop-self
decreases-loop-self l = length (left l.rest)
