-- The declarations so far, and those left, are those of the block.
use Rattle.std.proofs.Common.{◌≡◌, ℕ, List, length}
use Rattle.std.specs.List.{All}
use Rattle.std.specs.Vec.Iter.{into_iter_items, into_iter_len}
use Rattle.cu_names.specs.declared.names.NameId.{NameId}
use Rattle.cu_syntax.specs.declared.symbol.Symbol.TheVariants as symbol
use Rattle.cu_syntax.specs.Reading.{block_of, declarations_of}
use Rattle.cu_syntax.specs.SubtreeMeaning.{tree_of}
use Rattle.cu_syntax.specs.Owners.{DeclarationIsOf, IsOf}
use Rattle.cu_syntax.proofs.DeclarationLemmas.{with_declaration}
use Rattle.cu_syntax.proofs.ViewLemmas.{Reads}
use Rattle.cu_syntax.proofs.declaration_forms.block.Given as goal

abbrev pub invariant-loop-place : goal.invariant-loop-place
invariant-loop-place l = record {
  reads : (names : List (List ℕ)) → Reads (with_declaration names) declarations_of names (block_of (tree_of names l.tree)) l.declarations.items (into_iter_items l.place-iterator);
  left : (owner : NameId) (names : List (List ℕ)) → IsOf owner names l.tree → All (IsOf owner names) (into_iter_items l.place-iterator);
  owned : (owner : NameId) (names : List (List ℕ)) → IsOf owner names l.tree → All (DeclarationIsOf owner names) l.declarations.items;
  symbols : All (λ part. part.symbol ≡ symbol.OptionalDecl) (into_iter_items l.place-iterator);
  counted : into_iter_len l.place-iterator ≡ length (into_iter_items l.place-iterator);
}
