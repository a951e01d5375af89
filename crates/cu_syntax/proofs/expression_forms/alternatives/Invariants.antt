-- What was found, and what is left, are the whole.
use Rattle.std.proofs.Common.{◌≡◌, ℕ, List, length}
use Rattle.std.specs.List.{All}
use Rattle.std.specs.Vec.Iter.{into_iter_items, into_iter_len}
use Rattle.cu_names.specs.declared.names.NameId.{NameId}
use Rattle.cu_syntax.specs.declared.symbol.Symbol.TheVariants as symbol
use Rattle.cu_syntax.specs.Expressions.{alternatives_in}
use Rattle.cu_syntax.specs.Reading.{alternatives_of}
use Rattle.cu_syntax.specs.SubtreeMeaning.{tree_of}
use Rattle.cu_syntax.specs.Expressions.{with_alternative}
use Rattle.cu_syntax.specs.Owners.{AlternativeIsOf, IsOf}
use Rattle.cu_syntax.proofs.ViewLemmas.{Reads}
use Rattle.cu_syntax.proofs.expression_forms.alternatives.Given as goal

abbrev pub invariant-loop-place : goal.invariant-loop-place
invariant-loop-place l = record {
  reads : (names : List (List ℕ)) → Reads (with_alternative names) alternatives_of names (alternatives_in (tree_of names l.tree)) l.alternatives.items (into_iter_items l.place-iterator);
  left : (owner : NameId) (names : List (List ℕ)) → IsOf owner names l.tree → All (IsOf owner names) (into_iter_items l.place-iterator);
  owned : (owner : NameId) (names : List (List ℕ)) → IsOf owner names l.tree → All (AlternativeIsOf owner names) l.alternatives.items;
  symbols : All (λ part. part.symbol ≡ symbol.OptionalAlt) (into_iter_items l.place-iterator);
  counted : into_iter_len l.place-iterator ≡ length (into_iter_items l.place-iterator);
}
