-- What was found, and what is left, are the whole.
use Rattle.std.proofs.Common.{◌≡◌, ℕ, List, length}
use Rattle.std.specs.List.{All}
use Rattle.std.specs.Vec.Iter.{into_iter_items, into_iter_len}
use Rattle.cu_names.specs.declared.names.NameId.{NameId}
use Rattle.cu_syntax.specs.declared.symbol.Symbol.TheVariants as symbol
use Rattle.cu_syntax.specs.Expressions.{qualifiers_in}
use Rattle.cu_syntax.specs.Reading.{qualifiers_of}
use Rattle.cu_syntax.specs.SubtreeMeaning.{tree_of}
use Rattle.cu_syntax.specs.Owners.{IsOf, QualifierIsOf}
use Rattle.cu_syntax.proofs.ExpressionParts.{with_qualifier}
use Rattle.cu_syntax.proofs.ViewLemmas.{Reads}
use Rattle.cu_syntax.proofs.expression_forms.qualifiers.Given as goal

abbrev pub invariant-loop-qualifier : goal.invariant-loop-qualifier
invariant-loop-qualifier l = record {
  reads : (names : List (List ℕ)) → Reads (with_qualifier names) qualifiers_of names (qualifiers_in (tree_of names l.tree)) l.qualifiers.items (into_iter_items l.qualifier-iterator);
  left : (owner : NameId) (names : List (List ℕ)) → IsOf owner names l.tree → All (IsOf owner names) (into_iter_items l.qualifier-iterator);
  owned : (owner : NameId) (names : List (List ℕ)) → IsOf owner names l.tree → All (QualifierIsOf owner names) l.qualifiers.items;
  symbols : All (λ part. part.symbol ≡ symbol.Qual) (into_iter_items l.qualifier-iterator);
  counted : into_iter_len l.qualifier-iterator ≡ length (into_iter_items l.qualifier-iterator);
}
