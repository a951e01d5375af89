use Rattle.std.proofs.Common.{◌≡◌, length}
use Rattle.cu_peg.specs.Inside.Closure.{Derived, unmarked}
use Rattle.cu_peg.proofs.closure.saturate.Given as goal

abbrev pub invariant-loop-number : goal.invariant-loop-number
invariant-loop-number l = record {
  derived : Derived l.conditions l.initial.marks.items l.marks.items l.order.items;
  as_many : length l.marks.items ≡ length l.conditions;
}

abbrev pub decreases-loop-number : goal.decreases-loop-number
decreases-loop-number l = unmarked l.marks.items
