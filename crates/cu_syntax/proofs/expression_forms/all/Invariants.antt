-- The trees of the expressions so far, and those left.
use Rattle.std.proofs.Common.{◌≡◌, ◌++◌, length, map}
use Rattle.std.specs.Vec.Iter.{into_iter_items, into_iter_len}
use Rattle.cu_syntax.proofs.ExpressionForms.{subtree}
use Rattle.cu_syntax.proofs.expression_forms.all.Given as goal

abbrev pub invariant-loop-tree : goal.invariant-loop-tree
invariant-loop-tree l = record {
  all : map subtree l.expressions.items ++ into_iter_items l.tree-iterator ≡ into_iter_items l.initial.tree-iterator;
  counted : into_iter_len l.tree-iterator ≡ length (into_iter_items l.tree-iterator);
}
