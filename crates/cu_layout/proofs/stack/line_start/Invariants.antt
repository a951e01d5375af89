use Rattle.std.proofs.Common.{◌≡◌, ◌+◌, ◌≤◌, length, replicate, take}
use Rattle.cu_lex.specs.declared.token.LayoutMark.TheVariants as layout
use Rattle.cu_layout.specs.Inside.Entries.{sight_at, stack_of}
use Rattle.cu_layout.specs.Rules.{indentation, marks_then}
use Rattle.cu_layout.proofs.stack.line_start.Given as goal

abbrev pub invariant-loop-index : goal.invariant-loop-index
invariant-loop-index l = record {
  fits : l.cut.closed + l.index ≤ length l.stack;
  left : indentation (sight_at l.form l.fn.place) (stack_of l.stack) (stack_of l.stack)
      ≡ marks_then (replicate l.cut.closed layout.Close) (indentation (sight_at l.form l.fn.place) (stack_of (take l.cut.kept l.stack)) (stack_of (take l.index l.stack)));
}
