use Rattle.std.proofs.Common.{◌≡◌, drop}
use Rattle.cu_peg.specs.Inside.Places.{cell}
use Rattle.cu_peg.proofs.places.end_in.Given as goal

abbrev pub invariant-loop-entry : goal.invariant-loop-entry
invariant-loop-entry l = cell l.certain l.left l.entries l.row ≡ cell l.certain l.left (drop l.entry-index l.entries) l.row
