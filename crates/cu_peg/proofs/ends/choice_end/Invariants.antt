use Rattle.std.proofs.Common.{◌≡◌, drop}
use Rattle.cu_peg.specs.Inside.Ends.{choice_end, end_at}
use Rattle.cu_peg.proofs.ends.choice_end.Given as goal

abbrev pub invariant-loop-part : goal.invariant-loop-part
invariant-loop-part l = choice_end (end_at l.table.columns) l.parts l.left ≡ choice_end (end_at l.table.columns) (drop l.part-index l.parts) l.left
