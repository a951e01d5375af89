-- Names that a table tells apart.
use Rattle.std.proofs.Common.{◌≡◌, ◌∙◌, ℕ, true, List, [], ◌∷◌, Some, map, refl, sym, ap, Decides, get_or}
use Rattle.std.proofs.lemmas.Bool.Decides.{same_from_decides, Decides-eqb}
use Rattle.std.proofs.lemmas.Option.{slice_get-get_or}
use Rattle.std.proofs.lemmas.Slice.Eq.{bytes_eq-Decides}
use Rattle.std.specs.Prelude.{nat_eq, slice_get}
use Rattle.std.specs.Str.{bytes_eq}
use Rattle.cu_names.specs.declared.names.NameId.{NameId}
use Rattle.cu_names.specs.Texts.{AllDiffer, IsKnown, text_of}

pub stands : (names : List (List ℕ)) (a : NameId) → IsKnown names a → slice_get names a.0 ≡ Some (text_of names a)
stands names a known = slice_get-get_or names a.0 [] known

-- numbers of a table are alike where their texts are
pub same_name : (names : List (List ℕ)) (a b : NameId) → AllDiffer names → IsKnown names a → IsKnown names b → nat_eq a.0 b.0 ≡ bytes_eq (text_of names a) (text_of names b)
same_name names a b differ known_a known_b =
    let texts = bytes_eq-Decides (text_of names a) (text_of names b) in
    let by_texts : Decides (bytes_eq (text_of names a) (text_of names b)) (a.0 ≡ b.0) =
    (λ e. differ a.0 b.0 (text_of names a) (stands names a known_a) (stands names b known_b ∙ ap Some (sym (texts.0 e))), λ e. texts.1 (ap (λ i. get_or names i []) e)) in
    same_from_decides (nat_eq a.0 b.0) (bytes_eq (text_of names a) (text_of names b)) (Decides-eqb a.0 b.0) by_texts

-- texts the other way round
pub bytes_turned : (x y : List ℕ) → bytes_eq x y ≡ bytes_eq y x
bytes_turned x y =
    let there = bytes_eq-Decides x y in
    let converse = bytes_eq-Decides y x in
    same_from_decides (bytes_eq x y) (bytes_eq y x) there (λ e. sym (converse.0 e), λ e. converse.1 (sym e))

pub same_id : (a b : NameId) → nat_eq a.0 b.0 ≡ true → a ≡ b
same_id a b is = ap (λ (n : ℕ). record { 0 = n }) ((Decides-eqb a.0 b.0).0 is)

pub map_twice : {A B C : Type 0} (f : B → C) (g : A → B) (xs : List A) → map f (map g xs) ≡ map (λ x. f (g x)) xs
map_twice f g [] = refl
map_twice f g (x ∷ xs) = ap (λ ys. f (g x) ∷ ys) (map_twice f g xs)
