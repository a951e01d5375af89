-- The guards so far, and those left, are those of the whole.
use Rattle.std.proofs.Common.{◌≡◌, ℕ, List, length}
use Rattle.std.specs.List.{All}
use Rattle.std.specs.Vec.Iter.{into_iter_items, into_iter_len}
use Rattle.cu_names.specs.declared.names.NameId.{NameId}
use Rattle.cu_syntax.specs.Declarations.{guards_in, with_guard}
use Rattle.cu_syntax.specs.Reading.{guards_of}
use Rattle.cu_syntax.specs.SubtreeMeaning.{tree_of}
use Rattle.cu_syntax.specs.Owners.{GuardIsOf, IsOf}
use Rattle.cu_syntax.proofs.ViewLemmas.{Reads}
use Rattle.cu_syntax.proofs.declaration_forms.guards.Given as goal

abbrev pub invariant-loop-tree : goal.invariant-loop-tree
invariant-loop-tree l = record {
  reads : (names : List (List ℕ)) → Reads (with_guard names) guards_of names (guards_in (tree_of names l.tree)) l.guards.items (into_iter_items l.tree-iterator);
  left : (owner : NameId) (names : List (List ℕ)) → IsOf owner names l.tree → All (IsOf owner names) (into_iter_items l.tree-iterator);
  owned : (owner : NameId) (names : List (List ℕ)) → IsOf owner names l.tree → All (GuardIsOf owner names) l.guards.items;
  symbols : All (λ part. part.symbol ≡ l.fn.part) (into_iter_items l.tree-iterator);
  counted : into_iter_len l.tree-iterator ≡ length (into_iter_items l.tree-iterator);
}
