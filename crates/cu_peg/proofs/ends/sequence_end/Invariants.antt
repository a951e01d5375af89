use Rattle.std.proofs.Common.{◌≡◌, drop}
use Rattle.cu_peg.specs.Inside.Ends.{alone, end_at, sequence_end}
use Rattle.cu_peg.proofs.ends.sequence_end.Given as goal

abbrev pub invariant-loop-part : goal.invariant-loop-part
invariant-loop-part l = sequence_end (end_at l.table.columns) l.parts (alone l.left) ≡ sequence_end (end_at l.table.columns) (drop l.part-index l.parts) l.end
