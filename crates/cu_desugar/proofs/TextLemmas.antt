-- Functions with what is known of their texts, one after another.
use Rattle.std.proofs.Common.{◌≡◌, ◌∙◌, ◌<◌, ◌≤◌, ◌+◌, ℕ, List, [], ◌∷◌, ◌++◌, arith, length, get_or, map, refl, take, take_all, sym, ap, subst}
use Rattle.std.proofs.lemmas.List.{append-nil, append_assoc, map-append, map_more}
use Rattle.std.proofs.lemmas.List.Concat.{flat_map-append}
use Rattle.std.proofs.lemmas.List.Elements.{All-nil, All-push}
use Rattle.std.specs.List.{All, flat_map}
use Rattle.cu_locals.specs.Text.{Text}
use Rattle.cu_sites.specs.Meaning.{AreGroups, GroupIsOf, group_meaning}
use Rattle.cu_sites.specs.declared.rules.Group.{Group}
use Rattle.cu_translation.specs.Rules as meant
use Rattle.cu_desugar.specs.declared.texts.FunctionText.{FunctionText}
use Rattle.cu_desugar.specs.Inside.Texts.{AreTexts, IsText, function_in}

-- ---- what each of them gives

-- one more element of a list
pub one_more : {X Y Z : Type 0} (g : Y → List Z) (f : X → Y) (xs : List X) (i : ℕ) (x : X) → x ≡ get_or xs i x → i < length xs
    → flat_map g (map f (take i xs)) ++ g (f x) ≡ flat_map g (map f (take (i + 1) xs))
one_more g f xs i x is within =
    ap (λ zs. flat_map g (map f (take i xs)) ++ zs) (sym (append-nil (g (f x))))
    ∙ sym (flat_map-append g (map f (take i xs)) (f x ∷ []))
    ∙ ap (flat_map g) (ap (λ y. map f (take i xs) ++ f y ∷ []) is ∙ sym (map_more f xs i x within))

-- all elements
pub all_of : {X Y Z : Type 0} (g : Y → List Z) (f : X → Y) (xs : List X) (whole : List Y) (i : ℕ) → length xs ≤ i → map f xs ≡ whole
    → flat_map g (map f (take i xs)) ≡ flat_map g whole
all_of g f xs whole i past are = ap (λ ys. flat_map g (map f ys)) (take_all i xs past) ∙ ap (flat_map g) are

-- ---- how they are found

-- These were found, and from the groups that are left come the others.
pub record Finding (t : Text) (whole : List meant.Group) (found : List FunctionText) (left : List Group) : Type 0 where
  pub are : map (function_in t) found ++ map (group_meaning t.names) left ≡ whole
  pub known : All (IsText t) found
  pub owned : All (GroupIsOf t.owner t.names) left

pub found_start : (t : Text) (whole : List meant.Group) (found : List FunctionText) (left groups : List Group) → found ≡ [] → left ≡ groups → AreGroups t.owner t.names whole groups → Finding t whole found left
found_start t whole found left groups none same are = record {
  are = ap (λ fs. map (function_in t) fs ++ map (group_meaning t.names) left) none ∙ ap (map (group_meaning t.names)) same ∙ are.meaning;
  known = subst (All (IsText t)) (sym none) (All-nil (IsText t));
  owned = subst (All (GroupIsOf t.owner t.names)) (sym same) are.owned;
}

pub found_one : (t : Text) (whole : List meant.Group) (found after : List FunctionText) (left later : List Group) (g : Group) (f : FunctionText) → left ≡ g ∷ later
    → after ≡ found ++ f ∷ [] → f.group ≡ g → IsText t f → All (GroupIsOf t.owner t.names) later → Finding t whole found left → Finding t whole after later
found_one t whole found after left later g f split pushed same is owned before = record {
  are = ap (λ fs. map (function_in t) fs ++ map (group_meaning t.names) later) pushed
      ∙ ap (λ ys. ys ++ map (group_meaning t.names) later) (map-append (function_in t) found (f ∷ []))
      ∙ append_assoc (map (function_in t) found) (function_in t f ∷ []) (map (group_meaning t.names) later)
      ∙ ap (λ h. map (function_in t) found ++ group_meaning t.names h ∷ map (group_meaning t.names) later) same
      ∙ ap (λ gs. map (function_in t) found ++ map (group_meaning t.names) gs) (sym split)
      ∙ before.are;
  known = subst (All (IsText t)) (sym pushed) (All-push (IsText t) found f before.known is);
  owned = owned;
}

nothing : {X : Type 0} (xs : List X) → length xs ≡ 0 → xs ≡ []
nothing [] is = refl
nothing (x ∷ xs) is = absurd (omega (arith, is))

pub found_all : (t : Text) (whole : List meant.Group) (found : List FunctionText) (left : List Group) → length left ≡ 0 → Finding t whole found left → AreTexts t whole found
found_all t whole found left none before = record {
  are = sym (append-nil (map (function_in t) found)) ∙ ap (λ gs. map (function_in t) found ++ map (group_meaning t.names) gs) (sym (nothing left none)) ∙ before.are;
  known = before.known;
}
