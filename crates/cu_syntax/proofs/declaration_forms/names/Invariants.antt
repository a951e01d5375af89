-- The names so far, and those left, are those of the whole.
use Rattle.std.proofs.Common.{◌≡◌, ℕ, List, length}
use Rattle.std.specs.List.{All}
use Rattle.std.specs.Vec.Iter.{into_iter_items, into_iter_len}
use Rattle.cu_names.specs.declared.names.NameId.{NameId}
use Rattle.cu_syntax.specs.Names.{name_meaning}
use Rattle.cu_syntax.specs.Reading.{names_in, names_of}
use Rattle.cu_syntax.specs.SubtreeMeaning.{tree_of}
use Rattle.cu_syntax.specs.Owners.{IsOf, NameIsOf}
use Rattle.cu_syntax.proofs.DeclarationLemmas.{before}
use Rattle.cu_syntax.proofs.ViewLemmas.{Reads}
use Rattle.cu_syntax.proofs.declaration_forms.names.Given as goal

abbrev pub invariant-loop-name : goal.invariant-loop-name
invariant-loop-name l = record {
  reads : (names : List (List ℕ)) → Reads (before (name_meaning names)) names_of names (names_in (tree_of names l.tree)) l.names.items (into_iter_items l.name-iterator);
  left : (owner : NameId) (names : List (List ℕ)) → IsOf owner names l.tree → All (IsOf owner names) (into_iter_items l.name-iterator);
  owned : (owner : NameId) (names : List (List ℕ)) → IsOf owner names l.tree → All (NameIsOf owner names) l.names.items;
  symbols : All (λ part. part.symbol ≡ l.fn.part) (into_iter_items l.name-iterator);
  counted : into_iter_len l.name-iterator ≡ length (into_iter_items l.name-iterator);
}
