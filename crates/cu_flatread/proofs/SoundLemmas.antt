-- What is read of bytes is what they are the text of.
use Rattle.std.proofs.Common.{◌≡◌, ℕ, zero, suc, ◌+◌, ◌-◌, ◌≤◌, ◌<◌, ◌^◌, Bool, true, false, ◌&&◌, not, List, [], ◌∷◌, ◌++◌, All, Result, Ok, Err, codes, decimal, if◌then◌else◌, length, map, nat_eq, refl, sym, ap, subst, ◌∙◌, inl, inr, arith, append_assoc, eqb-true}
use Rattle.std.proofs.lemmas.Fmt.{decimal_digit}
use Rattle.std.proofs.lemmas.List.Elements.{All-cons, All-nil}
use Rattle.cu_flatread.proofs.DecimalLemmas.{and_true, digit_bounds, digits_sound, given, given_is}
use Rattle.cu_flatread.proofs.NameLemmas.{above, chosen}
use Rattle.cu_flatread.proofs.WordLemmas.{word_sound}
use Rattle.cu_flatread.specs.Inside.Numbers.{at_digit, decimal_at, digits_at, is_digit, positive_at}
use Rattle.cu_flatread.specs.Inside.Words.{Read, ◌>>=◌, after_word, elements, goes_on, is_at, joined, list_after, more_elements}
use Rattle.cu_flatread.specs.Notation.{further, separated}

-- a step that gave something, and the rest
pub bound : {A B : Type 0} (read : Result A ℕ) (f : A → Result B ℕ) (y : B) → (read >>= f) ≡ Ok y
    → (x : A) × (read ≡ Ok x) × (f x ≡ Ok y)
bound (Ok x) f y e = (x, refl, e)
bound (Err left) f y e = let no : ⊥ = cc in absurd no

-- what is read of bytes is the text of something that fits
pub record Takes {A : Type 0} (text : A → List ℕ) (Fits : A → Type 0) (bytes : List ℕ) (x : A)
    (rest : List ℕ) : Type 0 where
  pub whole : bytes ≡ text x ++ rest
  pub fits : Fits x

-- ---- numbers

not_true : (t : Bool) → not t ≡ true → t ≡ false
not_true true e = let no : ⊥ = cc in absurd no
not_true false e = refl

pub positive_sound : (most : ℕ) (bytes rest : List ℕ) (n : ℕ) → 9 ≤ most → most < 10 ^ 64
    → positive_at most bytes ≡ given n rest
    → (bytes ≡ decimal n ++ rest) × (n ≤ most) × (at_digit rest ≡ false)
unfolding positive_at
positive_sound most [] rest n nine small e = let no : ⊥ = cc in absurd no
positive_sound most (b ∷ bytes) rest n nine small e =
    elim (chosen (is_digit b && not (nat_eq b 48)) (digits_at most (b - 48) bytes) (Err (suc (length bytes)))
    (given n rest) e) [
      | inl is ↦
          let both = and_true (is_digit b) (not (nat_eq b 48)) is.0 in
          let range = digit_bounds b both.0 in
          let past = above b 48 (not_true (nat_eq b 48) both.1) range.0 in
          let d = digits_sound most (b - 48) bytes rest n (omega (arith, past)) (omega (arith, range.1)) small is.1 in
          let back : 48 + (b - 48) ≡ b = omega (arith, range.0) in
          let first : decimal (b - 48) ≡ b ∷ [] =
          decimal_digit (b - 48) (omega (arith, range.1)) ∙ ap (λ x. x ∷ []) back in (
            ap (λ x. b ∷ x) d.whole
                ∙ ap (λ x. x ++ rest) (ap (λ x. x ++ d.more) (sym first) ∙ sym d.spelled),
            d.fits,
            d.ends,
          )
      | inr other ↦ let none : ⊥ = cc in absurd none
    ]

zero_sound : (t : Bool) (most n : ℕ) (bytes rest r : List ℕ) → at_digit r ≡ t
    → bytes ≡ codes "0" ++ r → (if t then Err (length r) else given 0 r) ≡ given n rest
    → (bytes ≡ decimal n ++ rest) × (n ≤ most) × (at_digit rest ≡ false)
zero_sound true most n bytes rest r ends is e = let no : ⊥ = cc in absurd no
zero_sound false most n bytes rest r ends is e =
    let same = given_is 0 n r rest e in
    let spelled : codes "0" ≡ decimal n = sym (decimal_digit 0 (omega arith)) ∙ ap decimal same.0 in (
      is ∙ (λ i. spelled i ++ same.1 i),
      omega (arith, same.0),
      subst (λ (x : List ℕ). at_digit x ≡ false) same.1 ends,
    )

pub decimal_sound : (most : ℕ) (bytes rest : List ℕ) (n : ℕ) → 9 ≤ most → most < 10 ^ 64
    → decimal_at most bytes ≡ given n rest
    → (bytes ≡ decimal n ++ rest) × (n ≤ most) × (at_digit rest ≡ false)
unfolding decimal_at
decimal_sound most bytes rest n nine small e =
    elim (chosen (is_at 48 bytes) (after_word (codes "0") bytes
    >>= λ r. if at_digit r then Err (length r) else given 0 r) (positive_at most bytes) (given n rest) e) [
      | inl is ↦
          let zero = bound (after_word (codes "0") bytes) _ (n, rest) is.1 in
          zero_sound (at_digit zero.0) most n bytes rest zero.0 refl
          (word_sound (codes "0") bytes zero.0 zero.1) zero.2
      | inr other ↦ positive_sound most bytes rest n nine small other.1
    ]

-- ---- lists

pub goes_on_sound : (bytes rest : List ℕ) (more : Bool) → goes_on bytes ≡ given more rest
    → bytes ≡ (if more then 44 else 93) ∷ rest
goes_on_sound [] rest more e = let no : ⊥ = cc in absurd no
goes_on_sound (b ∷ bytes) rest more e =
    elim (chosen (nat_eq b 44) (given true bytes) (if nat_eq b 93 then given false bytes
    else Err (suc (length bytes))) (given more rest) e) [
      | inl comma ↦
          let same = given_is true more bytes rest comma.1 in
          let is = eqb-true b 44 comma.0 in
          (λ i. is i ∷ same.1 i)
          ∙ ap (λ t. (if t then 44 else 93) ∷ rest) same.0
      | inr other ↦ elim (chosen (nat_eq b 93) (given false bytes) (Err (suc (length bytes))) (given more rest) other.1) [
        | inl end ↦
            let same = given_is false more bytes rest end.1 in
            let is = eqb-true b 93 end.0 in
            (λ i. is i ∷ same.1 i)
            ∙ ap (λ t. (if t then 44 else 93) ∷ rest) same.0
        | inr none ↦ let no : ⊥ = cc in absurd no
      ]
    ]

pub joined_is : {A : Type 0} (xs ys : List A) (read : Read (List A)) (rest : List ℕ)
    → joined xs read ≡ given ys rest → (zs : List A) × (read ≡ given zs rest) × (xs ++ zs ≡ ys)
joined_is xs ys (Ok r) rest e =
    let same = given_is (xs ++ r.0) ys r.1 rest e in
    (r.0, ap (λ s. given r.0 s) same.1, same.0)
joined_is xs ys (Err left) rest e = let no : ⊥ = cc in absurd no

-- how an element is read
abbrev pub ReadsSoundly : {A : Type 0} → (List ℕ → Read A) → (A → List ℕ) → (A → Type 0) → Type 0
ReadsSoundly {A} element text Fits =
    (bytes : List ℕ) (x : A) (rest : List ℕ) → element bytes ≡ given x rest
    → (bytes ≡ text x ++ rest) × Fits x

more_either : {A : Type 0} (element : List ℕ → Read A) (text : A → List ℕ) (Fits : A → Type 0)
    → ReadsSoundly element text Fits → (room : ℕ) (bytes after : List ℕ) (xs : List A)
    (rest : List ℕ) (more : Bool) → bytes ≡ (if more then 44 else 93) ∷ after
    → ((b : List ℕ) (ys : List A) → more_elements element room b ≡ given ys rest
    → (b ≡ further (map text ys) ++ 93 ∷ rest) × All Fits ys)
    → (if more then (element after >>= λ x. joined (x.0 ∷ []) (more_elements element room x.1))
    else given [] after) ≡ given xs rest
    → (bytes ≡ further (map text xs) ++ 93 ∷ rest) × All Fits xs
more_either element text Fits sound room bytes after xs rest true is next e =
    let one = bound (element after) _ (xs, rest) e in
    let x = sound after one.0.0 one.0.1 one.1 in
    let others = joined_is (one.0.0 ∷ []) xs (more_elements element room one.0.1) rest one.2 in
    let rests = next one.0.1 others.0 others.1 in (
      is ∙ ap (λ b. 44 ∷ b) (x.0 ∙ ap (λ b. text one.0.0 ++ b) rests.0
          ∙ sym (append_assoc (text one.0.0) (further (map text others.0)) (93 ∷ rest)))
          ∙ ap (λ ys. further (map text ys) ++ 93 ∷ rest) others.2,
      subst (All Fits) others.2 (All-cons Fits one.0.0 others.0 x.1 rests.1),
    )
more_either element text Fits sound room bytes after xs rest false is next e =
    let same = given_is [] xs after rest e in (
      is ∙ ap (λ b. 93 ∷ b) same.1 ∙ ap (λ ys. further (map text ys) ++ 93 ∷ rest) same.0,
      subst (All Fits) same.0 (All-nil Fits),
    )

more_sound : {A : Type 0} (element : List ℕ → Read A) (text : A → List ℕ) (Fits : A → Type 0)
    → ReadsSoundly element text Fits → (room : ℕ) (bytes : List ℕ) (xs : List A) (rest : List ℕ)
    → more_elements element room bytes ≡ given xs rest
    → (bytes ≡ further (map text xs) ++ 93 ∷ rest) × All Fits xs
unfolding more_elements
more_sound element text Fits sound zero bytes xs rest e = let no : ⊥ = cc in absurd no
more_sound element text Fits sound (suc room) bytes xs rest e =
    let comma = bound (goes_on bytes) _ (xs, rest) e in
    more_either element text Fits sound room bytes comma.0.1 xs rest comma.0.0
    (goes_on_sound bytes comma.0.1 comma.0.0 comma.1)
    (λ b ys. more_sound element text Fits sound room b ys rest) comma.2

-- a list after its bracket
pub list_after_sound : {A : Type 0} (element : List ℕ → Read A) (text : A → List ℕ)
    (Fits : A → Type 0) → ReadsSoundly element text Fits → (bytes : List ℕ) (xs : List A)
    (rest : List ℕ) → list_after element bytes ≡ given xs rest
    → (bytes ≡ separated (map text xs) ++ 93 ∷ rest) × All Fits xs
unfolding list_after
list_after_sound element text Fits sound bytes xs rest e =
    elim (chosen (is_at 93 bytes) (after_word (codes "]") bytes >>= λ r. given [] r) (elements element bytes) (given xs rest) e) [
      | inl empty ↦
          let end = bound (after_word (codes "]") bytes) _ (xs, rest) empty.1 in
          let same = given_is [] xs end.0 rest end.2 in (
            word_sound (codes "]") bytes end.0 end.1 ∙ ap (λ b. 93 ∷ b) same.1
                ∙ ap (λ ys. separated (map text ys) ++ 93 ∷ rest) same.0,
            subst (All Fits) same.0 (All-nil Fits),
          )
      | inr some ↦
          let one = bound (element bytes) _ (xs, rest) some.1 in
          let x = sound bytes one.0.0 one.0.1 one.1 in
          let others = joined_is (one.0.0 ∷ []) xs (more_elements element (length one.0.1) one.0.1) rest one.2 in
          let rests = more_sound element text Fits sound (length one.0.1) one.0.1 others.0 rest others.1 in (
            x.0 ∙ ap (λ b. text one.0.0 ++ b) rests.0
                ∙ sym (append_assoc (text one.0.0) (further (map text others.0)) (93 ∷ rest))
                ∙ ap (λ ys. separated (map text ys) ++ 93 ∷ rest) others.2,
            subst (All Fits) others.2 (All-cons Fits one.0.0 others.0 x.1 rests.1),
          )
    ]
