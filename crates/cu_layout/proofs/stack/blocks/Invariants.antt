use Rattle.std.proofs.Common.{◌≡◌, ◌+◌, ◌++◌, ◌≤◌, length, replicate, take}
use Rattle.cu_lex.specs.declared.token.LayoutMark.TheVariants as layout
use Rattle.cu_layout.specs.Inside.Entries.{stack_of}
use Rattle.cu_layout.specs.Rules.{closing_marks}
use Rattle.cu_layout.proofs.stack.blocks.Given as goal

abbrev pub invariant-loop-index : goal.invariant-loop-index
invariant-loop-index l = record {
  fits : l.count + l.index ≤ length l.stack;
  left : closing_marks (stack_of l.stack) ≡ replicate l.count layout.Close ++ closing_marks (stack_of (take l.index l.stack));
}
