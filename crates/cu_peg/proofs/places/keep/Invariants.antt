use Rattle.cu_peg.proofs.PlaceLemmas.{Kept}
use Rattle.cu_peg.proofs.places.keep.Given as goal

abbrev pub invariant-loop-row : goal.invariant-loop-row
invariant-loop-row l = Kept l.certain l.ends l.left l.row l.fn.entries.items l.entries.items
