-- Trees of constructors between patterns.
use Rattle.std.proofs.Common.{◌≡◌, ◌∙◌, ◌+◌, ℕ, suc, List, [], ◌∷◌, true, false, Option, None, Some, IfNone, IfSome, slice_get, ap, subst, arith}
use Rattle.std.specs.List.{AllZip}
use Rattle.cu_fixity.proofs.Relabel.{Alike, none_renamed, renamed}
use Rattle.cu_fixity.specs.Grouping.{Grouped, HasNoTree, Item, Tree}
use Rattle.cu_fixity.specs.Operators.{Operator, fixity_with, pattern_items, pattern_rest_items}
use Rattle.std.specs.Option.{is_some}
use Rattle.cu_fixity.specs.Pieces.{fixity_at, fixity_of, items_of, numbered}
use Rattle.cu_fixity.specs.declared.fixity.Fixity.{Fixity}
use Rattle.cu_fixity.specs.declared.piece.Piece.{Piece}
use Rattle.cu_lex.specs.Located.{Position}
use Rattle.cu_lex.specs.Reading.{position_of}
use Rattle.cu_syntax.specs.declared.patterns.ConstructorItem.{ConstructorItem}
use Rattle.cu_syntax.specs.declared.patterns.PatItems.{PatItems}
use Rattle.cu_syntax.specs.Patterns.{pat_items_meaning, rest_meaning}
use Rattle.cu_translation.proofs.Trees.{grouped_exactly, none_exactly}
use Rattle.cu_translation.specs.FaultOrder.{FixityClash, fault}
use Rattle.cu_translation.specs.Faults.{clash_unless}
use Rattle.cu_translation.specs.GroupedTree.{grouped_tree}
use Rattle.cu_translation.specs.Meaning.{Setting}
use Rattle.cu_faults.specs.Inside.Patterns.{operators_clash, pieces_after, pieces_of}

-- ---- grouped trees

pub is_tree : {A O : Type 0} (fixity : O → Fixity) (items : List (Item A O)) (at : Position) (t : Tree A O) → Grouped fixity items t
    → clash_unless at (grouped_tree fixity items) ≡ []
is_tree fixity items at t grouped = ap (clash_unless at) ((grouped_exactly fixity items t).0 grouped)

pub no_tree : {A O : Type 0} (fixity : O → Fixity) (items : List (Item A O)) (at : Position) → HasNoTree fixity items
    → clash_unless at (grouped_tree fixity items) ≡ fault FixityClash at ∷ []
no_tree fixity items at none = ap (clash_unless at) ((none_exactly fixity items).0 none)

-- ---- pieces of patterns

abbrev fixity_in : Setting → Operator → Fixity
fixity_in w = fixity_with w.around.names.fixity

alike_after : (w : Setting) (whole : List Piece) (n : ℕ) (items : List ConstructorItem)
    → ((k : ℕ) → slice_get whole (n + k) ≡ slice_get (pieces_after w items) k)
    → AllZip (Alike (fixity_at whole) (fixity_in w)) (numbered n (pieces_after w items)) (pattern_rest_items (rest_meaning w.names items))
alike_after w whole n [] same = tt
alike_after w whole n (item ∷ items) same =
    let first : n ≡ n + 0 = omega arith in
    let here = ap (slice_get whole) first ∙ same 0 in
    let later : (k : ℕ) → slice_get whole (suc (suc n) + k) ≡ slice_get (pieces_after w items) k =
    λ k. (let e : suc (suc n) + k ≡ n + suc (suc k) = omega arith in ap (slice_get whole) e ∙ same (suc (suc k))) in
    (ap fixity_of here, (tt, alike_after w whole (suc (suc n)) items later))

alike : (w : Setting) (items : PatItems)
    → AllZip (Alike (fixity_at (pieces_of w items)) (fixity_in w)) (items_of (pieces_of w items)) (pattern_items (pat_items_meaning w.names items))
alike w items = (
  tt,
  alike_after w (pieces_of w items) 1 items.rest.items
      (λ k. (let e : 1 + k ≡ suc k = omega arith in ap (slice_get (pieces_of w items)) e)),
)

grouped_without : (w : Setting) (items : PatItems) (t : Tree ℕ ℕ) → Grouped (fixity_at (pieces_of w items)) (items_of (pieces_of w items)) t
    → operators_clash w items ≡ []
unfolding operators_clash
grouped_without w items t grouped =
    let ps = pieces_of w items in
    let k = renamed (fixity_at ps) (fixity_in w) (Alike (fixity_at ps) (fixity_in w)) (λ x y same. same) (items_of ps)
    (pattern_items (pat_items_meaning w.names items)) t (alike w items) grouped in
    is_tree (fixity_in w) (pattern_items (pat_items_meaning w.names items)) (position_of items.place) k.tree k.grouped

clash_without : (w : Setting) (items : PatItems) → HasNoTree (fixity_at (pieces_of w items)) (items_of (pieces_of w items))
    → operators_clash w items ≡ fault FixityClash (position_of items.place) ∷ []
unfolding operators_clash
clash_without w items none =
    let ps = pieces_of w items in
    no_tree (fixity_in w) (pattern_items (pat_items_meaning w.names items)) (position_of items.place)
    (none_renamed (fixity_at ps) (fixity_in w) (items_of ps) (pattern_items (pat_items_meaning w.names items)) (alike w items) none)

pub tree_found : (w : Setting) (items : PatItems) (ps : List Piece) (found : Option (Tree ℕ ℕ)) → ps ≡ pieces_of w items → IfSome found (Grouped (fixity_at ps) (items_of ps))
    → is_some found ≡ true → operators_clash w items ≡ []
tree_found w items ps None seen grouped some = let no : ⊥ = cc in absurd no
tree_found w items ps (Some t) seen grouped some =
    grouped_without w items t (subst (λ qs. Grouped (fixity_at qs) (items_of qs) t) seen grouped)

pub clash_found : (w : Setting) (items : PatItems) (ps : List Piece) (found : Option (Tree ℕ ℕ)) → ps ≡ pieces_of w items → IfNone found (HasNoTree (fixity_at ps) (items_of ps))
    → is_some found ≡ false → operators_clash w items ≡ fault FixityClash (position_of items.place) ∷ []
clash_found w items ps None seen no_tree none = clash_without w items (subst (λ qs. HasNoTree (fixity_at qs) (items_of qs)) seen no_tree)
clash_found w items ps (Some t) seen no_tree none = let no : ⊥ = cc in absurd no
