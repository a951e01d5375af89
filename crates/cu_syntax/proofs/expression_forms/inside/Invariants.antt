-- What is inside is the same expression.
use Rattle.std.proofs.Common.{◌≡◌, ℕ, List, length, true}
use Rattle.cu_names.specs.declared.names.NameId.{NameId}
use Rattle.cu_syntax.specs.ExpressionMeaning.{expression_at}
use Rattle.cu_syntax.specs.Forms.{is_expression}
use Rattle.cu_syntax.specs.SubtreeMeaning.{tree_of}
use Rattle.cu_syntax.specs.Owners.{IsOf}
use Rattle.cu_syntax.proofs.expression_forms.inside.Given as goal

abbrev pub invariant-loop-next : goal.invariant-loop-next
invariant-loop-next l = record {
  symbol : is_expression l.inner.symbol ≡ true;
  owned : (owner : NameId) (names : List (List ℕ)) → IsOf owner names l.tree → IsOf owner names l.inner;
  same : (names : List (List ℕ)) → expression_at l.inner.symbol (tree_of names l.inner) ≡ expression_at l.tree.symbol (tree_of names l.tree);
}

abbrev pub decreases-loop-next : goal.decreases-loop-next
decreases-loop-next l = length l.inner.nodes.now
