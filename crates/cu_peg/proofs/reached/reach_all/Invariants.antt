use Rattle.std.proofs.Common.{◌≡◌, true, take}
use Rattle.std.specs.Prelude.{All}
use Rattle.cu_peg.specs.Inside.Closure.{marked}
use Rattle.cu_peg.specs.Inside.Reached.{Spreads}
use Rattle.cu_peg.proofs.reached.reach_all.Given as goal

abbrev pub invariant-loop-part : goal.invariant-loop-part
invariant-loop-part l = record {
  spreads : Spreads l.fn.marks.items l.fn.pending.items l.marks.items l.pending.items;
  reached : All (λ p. marked l.marks.items p ≡ true) (take l.part-index l.parts);
}
