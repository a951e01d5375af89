use Rattle.std.proofs.Common.{◌≡◌, ◌+◌, ◌≤◌, length, take}
use Rattle.cu_layout.specs.Inside.Entries.{after_closes, stack_of}
use Rattle.cu_layout.specs.Rules.{below_brace}
use Rattle.cu_layout.proofs.stack.below_brace.Given as goal

abbrev pub invariant-loop-index : goal.invariant-loop-index
invariant-loop-index l = record {
  fits : l.closed + l.index ≤ length l.stack;
  left : below_brace (stack_of l.stack) ≡ after_closes l.closed (below_brace (stack_of (take l.index l.stack)));
}
