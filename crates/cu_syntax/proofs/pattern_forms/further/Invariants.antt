-- The operators so far, and those left, are those of the whole.
use Rattle.std.proofs.Common.{◌≡◌, ℕ, List, length}
use Rattle.std.specs.List.{All}
use Rattle.std.specs.Vec.Iter.{into_iter_items, into_iter_len}
use Rattle.cu_names.specs.declared.names.NameId.{NameId}
use Rattle.cu_syntax.specs.declared.symbol.Symbol.TheVariants as symbol
use Rattle.cu_syntax.specs.Patterns.{rest_of, with_item}
use Rattle.cu_syntax.specs.Reading.{pattern_rest}
use Rattle.cu_syntax.specs.SubtreeMeaning.{tree_of}
use Rattle.cu_syntax.specs.Owners.{ConstructorItemIsOf, IsOf}
use Rattle.cu_syntax.proofs.ViewLemmas.{Reads}
use Rattle.cu_syntax.proofs.pattern_forms.further.Given as goal

abbrev pub invariant-loop-item : goal.invariant-loop-item
invariant-loop-item l = record {
  reads : (names : List (List ℕ)) → Reads (with_item names) pattern_rest names (rest_of (tree_of names l.tree)) l.items.items (into_iter_items l.item-iterator);
  left : (owner : NameId) (names : List (List ℕ)) → IsOf owner names l.tree → All (IsOf owner names) (into_iter_items l.item-iterator);
  owned : (owner : NameId) (names : List (List ℕ)) → IsOf owner names l.tree → All (ConstructorItemIsOf owner names) l.items.items;
  symbols : All (λ part. part.symbol ≡ symbol.FurtherConPat) (into_iter_items l.item-iterator);
  counted : into_iter_len l.item-iterator ≡ length (into_iter_items l.item-iterator);
}
