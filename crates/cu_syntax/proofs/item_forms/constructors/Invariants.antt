-- The constructors so far, and those left, are those of the whole.
use Rattle.std.proofs.Common.{◌≡◌, [], ℕ, List, length}
use Rattle.std.specs.List.{All}
use Rattle.std.specs.Option.{unwrap_or}
use Rattle.std.specs.Vec.Iter.{into_iter_items, into_iter_len}
use Rattle.cu_names.specs.declared.names.NameId.{NameId}
use Rattle.cu_syntax.specs.declared.symbol.Symbol.TheVariants as symbol
use Rattle.cu_syntax.specs.Items.{constructor_meaning}
use Rattle.cu_syntax.specs.Reading.{constructor_declaration, constructors_of, each, optional}
use Rattle.cu_syntax.specs.SubtreeMeaning.{tree_of}
use Rattle.cu_syntax.specs.Owners.{ConstructorDeclarationIsOf, IsOf}
use Rattle.cu_syntax.proofs.DeclarationLemmas.{before}
use Rattle.cu_syntax.proofs.ViewLemmas.{Reads}
use Rattle.cu_syntax.proofs.item_forms.constructors.Given as goal

abbrev pub invariant-loop-declaration : goal.invariant-loop-declaration
invariant-loop-declaration l = record {
  reads : (names : List (List ℕ)) → Reads (before (constructor_meaning names)) (each constructor_declaration) names (unwrap_or (optional constructors_of (tree_of names l.tree)) [])
      l.constructors.items (into_iter_items l.declaration-iterator);
  left : (owner : NameId) (names : List (List ℕ)) → IsOf owner names l.tree → All (IsOf owner names) (into_iter_items l.declaration-iterator);
  owned : (owner : NameId) (names : List (List ℕ)) → IsOf owner names l.tree → All (ConstructorDeclarationIsOf owner names) l.constructors.items;
  symbols : All (λ part. part.symbol ≡ symbol.ConDecl) (into_iter_items l.declaration-iterator);
  counted : into_iter_len l.declaration-iterator ≡ length (into_iter_items l.declaration-iterator);
}
