-- Laws on reading the elements of a list, one after another.
use Rattle.std.proofs.Common.{◌≡◌, ℕ, zero, suc, pred, ◌-◌, ◌≤◌, true, false, List, [], ◌∷◌, ◌++◌, Ok, Err, drop, get_or, length, map, min, subst, take, refl, sym, ap, ◌∙◌, arith, append_assoc, append-nil}
use Rattle.std.proofs.lemmas.List.{map_push}
use Rattle.cu_flatread.specs.Inside.Words.{after_word, one_of_words, Read, goes_on, joined, more_elements}

pub joined-joined : {A : Type 0} (xs ys : List A) (read : Read (List A))
    → joined xs (joined ys read) ≡ joined (xs ++ ys) read
joined-joined xs ys (Ok zs) = rw (append_assoc xs ys zs.0) refl
joined-joined xs ys (Err left) = refl

-- a comma, and one more element
pub more_true : {A : Type 0} (element : List ℕ → Read A) (room : ℕ) (bytes after rest : List ℕ)
    (x : A) (xs : List A) → goes_on bytes ≡ Ok (true, after) → element after ≡ Ok (x, rest)
    → length bytes ≤ room
    → joined xs (more_elements element room bytes)
    ≡ joined (xs ++ x ∷ []) (more_elements element (pred room) rest)
unfolding more_elements
more_true element zero [] after rest x xs comma one few = let no : ⊥ = cc in absurd no
more_true element zero (b ∷ bytes) after rest x xs comma one few = absurd (omega (arith, few))
more_true element (suc room) bytes after rest x xs comma one few =
    rw (comma, one) (joined-joined xs (x ∷ []) (more_elements element room rest))

-- the end of the list
pub more_false : {A : Type 0} (element : List ℕ → Read A) (room : ℕ) (bytes after : List ℕ)
    (xs : List A) → goes_on bytes ≡ Ok (false, after) → length bytes ≤ room
    → joined xs (more_elements element room bytes) ≡ Ok (xs, after)
unfolding more_elements
more_false element zero [] after xs end few = let no : ⊥ = cc in absurd no
more_false element zero (b ∷ bytes) after xs end few = absurd (omega (arith, few))
more_false element (suc room) bytes after xs end few = rw (end, append-nil xs) refl

-- neither of both
pub more_stop : {A : Type 0} (element : List ℕ → Read A) (room : ℕ) (bytes : List ℕ) (left : ℕ)
    (xs : List A) → goes_on bytes ≡ Err left → length bytes ≤ room
    → joined xs (more_elements element room bytes) ≡ Err left
unfolding more_elements
more_stop element zero [] left xs stop few =
    let is : 0 ≡ left = cc in ap Err is
more_stop element zero (b ∷ bytes) left xs stop few = absurd (omega (arith, few))
more_stop element (suc room) bytes left xs stop few = rw stop refl

-- a comma, and no element
pub more_bad : {A : Type 0} (element : List ℕ → Read A) (room : ℕ) (bytes after : List ℕ)
    (left : ℕ) (xs : List A) → goes_on bytes ≡ Ok (true, after) → element after ≡ Err left
    → length bytes ≤ room → joined xs (more_elements element room bytes) ≡ Err left
unfolding more_elements
more_bad element zero [] after left xs comma bad few = let no : ⊥ = cc in absurd no
more_bad element zero (b ∷ bytes) after left xs comma bad few = absurd (omega (arith, few))
more_bad element (suc room) bytes after left xs comma bad few = rw (comma, bad) refl

-- one more element, where both are seen by functions
pub named_step : {X Y : Type 0} (before now : X → Y) (items pushed : List X) (x : X)
    (element : List ℕ → Read Y) (room : ℕ) (bytes after rest : List ℕ) (whole : Read (List Y))
    → pushed ≡ items ++ x ∷ [] → map now items ≡ map before items
    → goes_on bytes ≡ Ok (true, after) → element after ≡ Ok (now x, rest) → length bytes ≤ room
    → joined (map before items) (more_elements element room bytes) ≡ whole
    → joined (map now pushed) (more_elements element (pred room) rest) ≡ whole
named_step before now items pushed x element room bytes after rest whole is same comma one few so =
    ap (λ ys. joined ys (more_elements element (pred room) rest))
    (ap (map now) is ∙ map_push now items x ∙ ap (λ ys. ys ++ now x ∷ []) same)
    ∙ sym (more_true element room bytes after rest (now x) (map before items) comma one few) ∙ so

-- ---- words

-- the word at the front of a table
pub first_word : {W X : Type 0} (f : W → List ℕ × X) (ws : List W) (w d : W)
    (bytes rest : List ℕ) (least : ℕ) → 1 ≤ length ws → w ≡ get_or ws 0 d
    → after_word (f w).0 bytes ≡ Ok rest
    → one_of_words (map f ws) bytes least ≡ Ok ((f w).1, rest)
unfolding one_of_words
first_word f [] w d bytes rest least some is ok = absurd (omega (arith, some))
first_word f (v ∷ ws) w d bytes rest least some is ok =
    let first : after_word (f v).0 bytes ≡ Ok rest =
    subst (λ z. after_word (f z).0 bytes ≡ Ok rest) is ok in
    rw (is, first) refl

-- the words after it
pub other_words : {W X : Type 0} (f : W → List ℕ × X) (ws : List W) (w d : W)
    (bytes : List ℕ) (least left : ℕ) → 1 ≤ length ws → w ≡ get_or ws 0 d
    → after_word (f w).0 bytes ≡ Err left
    → one_of_words (map f (take (length ws - 1) (drop 1 ws))) bytes (min least left)
    ≡ one_of_words (map f ws) bytes least
unfolding one_of_words
other_words f [] w d bytes least left some is bad = absurd (omega (arith, some))
other_words f (v ∷ ws) w d bytes least left some is bad =
    let first : after_word (f v).0 bytes ≡ Err left =
    subst (λ z. after_word (f z).0 bytes ≡ Err left) is bad in
    let count : length (v ∷ ws) - 1 ≡ length ws = omega arith in
    ap (λ n. one_of_words (map f (take n ws)) bytes (min least left)) count
    ∙ ap (λ us. one_of_words (map f us) bytes (min least left)) (take_whole ws)
    ∙ rw first refl
  where
    take_whole : {W : Type 0} (ws : List W) → take (length ws) ws ≡ ws
    take_whole [] = refl
    take_whole (w ∷ ws) = ap (λ us. w ∷ us) (take_whole ws)
