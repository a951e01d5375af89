-- What the readers of names found.
use Rattle.std.proofs.Common.{◌≡◌, ℕ, ◌-◌, ◌≤◌, Bool, ◌&&◌, List, [], ◌∷◌, length, get_or, take, drop, ap, ◌∙◌, arith, length-drop}
use Rattle.std.specs.List.{list_all}
use Rattle.std.proofs.lemmas.List.{take_all}
use Rattle.cu_words.specs.Names.{is_letter, is_name, is_name_byte}

-- what stands after the first k elements
rest_is : {A : Type 0} (k : ℕ) (xs : List A) → take (length xs - k) (drop k xs) ≡ drop k xs
rest_is k xs = take_all _ _ (omega (arith, length-drop k xs))

pub is_name_read : (text : List ℕ) (letters : Bool) → 1 ≤ length text → letters ≡ list_all is_name_byte (take (length text - 1) (drop 1 text))
    → (is_letter (get_or text 0 0) && letters) ≡ is_name text
is_name_read [] letters some others = absurd (omega arith)
is_name_read (b ∷ bs) letters some others = ap (λ r. is_letter b && r) (others ∙ ap (list_all is_name_byte) (rest_is 1 (b ∷ bs)))
