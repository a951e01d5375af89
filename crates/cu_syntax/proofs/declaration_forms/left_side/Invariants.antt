-- What was found, with the parameters after the parentheses round it, is the whole.
use Rattle.std.proofs.Common.{◌≡◌, ℕ, List, length, true}
use Rattle.std.specs.List.{All}
use Rattle.cu_names.specs.declared.names.NameId.{NameId}
use Rattle.cu_syntax.specs.declared.symbol.Symbol.TheVariants as symbol
use Rattle.cu_syntax.specs.Declarations.{left_meaning}
use Rattle.cu_syntax.specs.Reading.{left_as, left_choice}
use Rattle.cu_syntax.specs.SubtreeMeaning.{tree_of}
use Rattle.cu_syntax.specs.Owners.{IsOf, LeftIsOf}
use Rattle.cu_syntax.proofs.DeclarationLemmas.{is_left, with_further}
use Rattle.cu_syntax.proofs.ViewLemmas.{folded}
use Rattle.cu_syntax.proofs.declaration_forms.left_side.Given as goal

abbrev pub invariant-loop-inner : goal.invariant-loop-inner
invariant-loop-inner l = record {
  left : is_left l.inner.symbol ≡ true;
  arguments : All (λ part. part.symbol ≡ symbol.PatArguments) l.further.items;
  further : (owner : NameId) (names : List (List ℕ)) → IsOf owner names l.tree → All (IsOf owner names) l.further.items;
  owned : (owner : NameId) (names : List (List ℕ)) → IsOf owner names l.tree → IsOf owner names l.inner;
  whole : (names : List (List ℕ)) → folded (with_further names) l.further.items (left_as l.inner.symbol (tree_of names l.inner)) ≡ left_choice l.tree.symbol (tree_of names l.tree);
}

abbrev pub decreases-loop-inner : goal.decreases-loop-inner
decreases-loop-inner l = length l.inner.nodes.now

abbrev pub invariant-loop-arguments : goal.invariant-loop-arguments
invariant-loop-arguments l = record {
  arguments : All (λ part. part.symbol ≡ symbol.PatArguments) l.further.items;
  further : (owner : NameId) (names : List (List ℕ)) → IsOf owner names l.tree → All (IsOf owner names) l.further.items;
  owned : (owner : NameId) (names : List (List ℕ)) → IsOf owner names l.tree → LeftIsOf owner names l.left;
  whole : (names : List (List ℕ)) → folded (with_further names) l.further.items (left_meaning names l.left) ≡ left_choice l.tree.symbol (tree_of names l.tree);
}

abbrev pub decreases-loop-arguments : goal.decreases-loop-arguments
decreases-loop-arguments l = length l.further.items
