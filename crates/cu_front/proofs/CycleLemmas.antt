-- The names of a cycle of imports, one after another.
use Rattle.std.proofs.Common.{◌≡◌, ℕ, ◌+◌, ◌<◌, ◌≤◌, List, ◌++◌, codes, drop, get_or, length, sym, ap, ◌∙◌, append_assoc}
use Rattle.std.proofs.lemmas.List.{drop_all, drop_more}
use Rattle.std.specs.List.{flat_map}
use Rattle.cu_modules.specs.Ordering.{texts_of}
use Rattle.cu_names.specs.declared.names.NameId.{NameId}
use Rattle.cu_names.specs.Texts.{text_of}
use Rattle.cu_front.specs.RefusalLine.{after_space}

-- the rest of the line, from some names on
abbrev pub rest_of : List (List ℕ) → List NameId → List ℕ
rest_of names ids = flat_map after_space (texts_of names ids) ++ codes "\n"

-- one more name
pub one_more : (names : List (List ℕ)) (ids : List NameId) (i : ℕ) (d : NameId)
    (before space text after : List ℕ) → i < length ids → space ≡ before ++ codes " "
    → text ≡ text_of names (get_or ids i d) → after ≡ space ++ text
    → after ++ rest_of names (drop (i + 1) ids) ≡ before ++ rest_of names (drop i ids)
one_more names ids i d before space text after below is_space is_text is_after =
    let name = text_of names (get_or ids i d) in
    let later = flat_map after_space (texts_of names (drop (i + 1) ids)) in
    ap (λ (text : List ℕ). text ++ (later ++ codes "\n"))
    (is_after ∙ ap (λ (found : List ℕ). space ++ found) is_text
    ∙ ap (λ (found : List ℕ). found ++ name) is_space)
    ∙ append_assoc (before ++ codes " ") name (later ++ codes "\n")
    ∙ append_assoc before (codes " ") (name ++ (later ++ codes "\n"))
    ∙ ap (λ (text : List ℕ). before ++ (codes " " ++ text)) (sym (append_assoc name later (codes "\n")))
    ∙ ap (λ (left : List NameId). before ++ rest_of names left) (sym (drop_more ids i d below))

-- no more
pub no_more : (names : List (List ℕ)) (ids : List NameId) (i : ℕ) (before after whole : List ℕ)
    → length ids ≤ i → after ≡ before ++ codes "\n"
    → before ++ rest_of names (drop i ids) ≡ whole → after ≡ whole
no_more names ids i before after whole end is_after invariant =
    is_after
    ∙ ap (λ (left : List NameId). before ++ rest_of names left) (sym (drop_all i ids end))
    ∙ invariant
