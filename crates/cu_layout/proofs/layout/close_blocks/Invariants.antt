use Rattle.std.proofs.Common.{◌≡◌, replicate}
use Rattle.cu_lex.specs.declared.token.LayoutMark.TheVariants as layout
use Rattle.cu_layout.specs.Inside.Entries.{with_marks_at}
use Rattle.cu_layout.proofs.layout.close_blocks.Given as goal

abbrev pub invariant-loop : goal.invariant-loop
invariant-loop l = l.laid.items ≡ with_marks_at l.place (replicate l.counter layout.Close) l.fn.laid.items
