-- The variables so far, and those of the declarations left, are those of the whole.
use Rattle.std.proofs.Common.{◌≡◌, ◌++◌, ℕ, List, length, map}
use Rattle.std.specs.List.{All}
use Rattle.std.specs.Vec.Iter.{into_iter_items, into_iter_len}
use Rattle.cu_names.specs.declared.names.NameId.{NameId}
use Rattle.cu_syntax.specs.declared.symbol.Symbol.TheVariants as symbol
use Rattle.cu_syntax.specs.Names.{name_meaning}
use Rattle.cu_syntax.specs.Reading.{free_names, goal_variables}
use Rattle.cu_syntax.specs.SubtreeMeaning.{tree_of}
use Rattle.cu_syntax.specs.Subtrees.{trees_from}
use Rattle.cu_syntax.specs.Owners.{IsOf, NameIsOf}
use Rattle.cu_syntax.proofs.item_forms.goal_variables.Given as goal

abbrev pub invariant-loop-declaration : goal.invariant-loop-declaration
invariant-loop-declaration l = record {
  reads : (names : List (List ℕ)) → map (name_meaning names) l.variables.items ++ free_names (trees_from (map (tree_of names) (into_iter_items l.declaration-iterator)))
      ≡ goal_variables (tree_of names l.tree);
  left : (owner : NameId) (names : List (List ℕ)) → IsOf owner names l.tree → All (IsOf owner names) (into_iter_items l.declaration-iterator);
  owned : (owner : NameId) (names : List (List ℕ)) → IsOf owner names l.tree → All (NameIsOf owner names) l.variables.items;
  symbols : All (λ part. part.symbol ≡ symbol.FreeDecl) (into_iter_items l.declaration-iterator);
  counted : into_iter_len l.declaration-iterator ≡ length (into_iter_items l.declaration-iterator);
}
