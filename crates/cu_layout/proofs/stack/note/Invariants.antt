use Rattle.std.proofs.Common.{◌≡◌, ◌++◌, drop, take}
use Rattle.cu_layout.specs.Inside.Entries.{stack_of}
use Rattle.cu_layout.specs.Rules.{stack_noting}
use Rattle.cu_layout.proofs.stack.note.Given as goal

abbrev pub invariant-loop-index : goal.invariant-loop-index
invariant-loop-index l = record {
  same : l.stack ≡ l.initial.stack;
  left : stack_noting l.form (stack_of l.stack) ≡ stack_of (drop l.index l.stack) ++ stack_noting l.form (stack_of (take l.index l.stack));
}
