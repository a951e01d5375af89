use Rattle.std.proofs.Common.{◌≡◌, ◌+◌, ◌≤◌, length, take}
use Rattle.cu_layout.specs.Inside.Entries.{after_closes, stack_of}
use Rattle.cu_layout.specs.Rules.{to_partner}
use Rattle.cu_layout.proofs.stack.to_partner.Given as goal

abbrev pub invariant-loop-index : goal.invariant-loop-index
invariant-loop-index l = record {
  fits : l.closed + l.index ≤ length l.stack;
  left : to_partner l.form (stack_of l.stack) ≡ after_closes l.closed (to_partner l.form (stack_of (take l.index l.stack)));
}
