-- Where bytes stop being the beginning of a text.
use Rattle.std.proofs.Common.{◌≡◌, ℕ, zero, suc, ◌+◌, ◌-◌, ◌<◌, ◌≤◌, ⊎_elim, Bool, true, false, ◌||◌, List, [], ◌∷◌, ◌++◌, length, take, drop, slice_range, if◌then◌else◌, refl, sym, ap, subst, ◌∙◌, arith, true≢false, append_assoc}
use Rattle.std.proofs.lemmas.Bool.{cases_lt}
use Rattle.std.proofs.lemmas.List.{append-nil}
use Rattle.std.proofs.lemmas.Str.{IsUtf8-from_is_utf8, is_utf8-from_IsUtf8, IsUtf8-append, IsUtf8-drop, IsCharBoundary-from_take}
use Rattle.std.proofs.Math.Seq.{take-append_seam, drop-append_seam}
use Rattle.std.specs.List.{list_any}
use Rattle.std.specs.Str.{is_utf8, IsUtf8}
use Rattle.cu_lex.specs.Decoding.{begins_text, begun_up_to, fault_offset, endings}
use Rattle.cu_lex.proofs.TextBeginnings.{begins_texts}
use Rattle.std.proofs.lemmas.List.{length-append}

pub same-tests : (a b : Bool) → (a ≡ true → b ≡ true) → (b ≡ true → a ≡ true) → a ≡ b
same-tests true b to from = sym (to refl)
same-tests false true to from = from refl
same-tests false false to from = refl

-- what follows a text decides
pub utf8-after : (prefix bytes : List ℕ) → IsUtf8 prefix → is_utf8 (prefix ++ bytes) ≡ is_utf8 bytes
utf8-after prefix bytes text = same-tests (is_utf8 (prefix ++ bytes)) (is_utf8 bytes) to from
  where
    to : is_utf8 (prefix ++ bytes) ≡ true → is_utf8 bytes ≡ true
    to is =
        let whole = IsUtf8-from_is_utf8 (prefix ++ bytes) is in
        let fits : length prefix ≤ length (prefix ++ bytes) = omega (arith, length-append prefix bytes) in
        let cut = IsCharBoundary-from_take (prefix ++ bytes) (length prefix) whole fits (subst IsUtf8 (sym (take-append_seam prefix bytes)) text) in
        is_utf8-from_IsUtf8 bytes (subst IsUtf8 (drop-append_seam prefix bytes) (IsUtf8-drop (prefix ++ bytes) (length prefix) whole cut))

    from : is_utf8 bytes ≡ true → is_utf8 (prefix ++ bytes) ≡ true
    from is = is_utf8-from_IsUtf8 (prefix ++ bytes) (IsUtf8-append prefix bytes text (IsUtf8-from_is_utf8 bytes is))

any-same : (prefix bytes : List ℕ) → IsUtf8 prefix → (ends : List (List ℕ)) → list_any (λ e. is_utf8 ((prefix ++ bytes) ++ e)) ends ≡ list_any (λ e. is_utf8 (bytes ++ e)) ends
any-same prefix bytes text [] = refl
any-same prefix bytes text (e ∷ ends) =
    (λ j. (ap is_utf8 (append_assoc prefix bytes e) ∙ utf8-after prefix (bytes ++ e) text) j || any-same prefix bytes text ends j)

pub begins-after : (prefix bytes : List ℕ) → IsUtf8 prefix → begins_text (prefix ++ bytes) ≡ begins_text bytes
unfolding begins_text
begins-after prefix bytes text = any-same prefix bytes text endings

pub take-split : (n m : ℕ) (bytes : List ℕ) → n ≤ m → take m bytes ≡ take n bytes ++ take (m - n) (drop n bytes)
take-split zero m bytes fits = let same : m - 0 ≡ m = omega arith in rw same refl
take-split (suc n) zero bytes fits = absurd (omega arith)
take-split (suc n) (suc m) [] fits = by (suc m - suc n)
  where
    by : (k : ℕ) → [] ≡ take {A = ℕ} k []
    by zero = refl
    by (suc k) = refl
take-split (suc n) (suc m) (b ∷ bytes) fits =
    let same : suc m - suc n ≡ m - n = omega arith in
    rw same (ap (λ t. b ∷ t) (take-split n m bytes (omega arith)))

pub begins-slice : (bytes : List ℕ) (valid m : ℕ) → IsUtf8 (take valid bytes) → valid ≤ m → begins_text (take m bytes) ≡ begins_text (slice_range bytes valid m)
begins-slice bytes valid m text fits = ap begins_text (take-split valid m bytes fits) ∙ begins-after (take valid bytes) (take (m - valid) (drop valid bytes)) text

-- a text begins itself
pub text-begins : (bytes : List ℕ) → IsUtf8 bytes → begins_text bytes ≡ true
text-begins bytes text = (begins_texts bytes).1 ([], subst IsUtf8 (sym (append-nil bytes)) text)

-- what is shorter begins the text too
pub begins-shorter : (bytes : List ℕ) (n m : ℕ) → n ≤ m → begins_text (take m bytes) ≡ true → begins_text (take n bytes) ≡ true
begins-shorter bytes n m fits is =
    let whole = (begins_texts (take m bytes)).0 is in
    (begins_texts (take n bytes)).1 (
      take (m - n) (drop n bytes) ++ whole.0,
      subst IsUtf8 (ap (λ t. t ++ whole.0) (take-split n m bytes fits) ∙ append_assoc (take n bytes) (take (m - n) (drop n bytes)) whole.0) whole.1,
    )

pub begun-at : (bytes : List ℕ) (n most : ℕ) → n ≤ most → begins_text (take n bytes) ≡ true → (n < most → begins_text (take (n + 1) bytes) ≡ false) → begun_up_to bytes most ≡ n
unfolding begun_up_to
begun-at bytes n zero fits is next = omega arith
begun-at bytes n (suc most) fits is next = ⊎_elim (λ lt. before lt (begun-at bytes n most (omega arith) is (λ h. next (omega arith)))) here (cases_lt n (suc most))
  where
    before : n < suc most → begun_up_to bytes most ≡ n → (if begins_text (take (suc most) bytes) then suc most else begun_up_to bytes most) ≡ n
    before lt more = by (begins_text (take (suc most) bytes)) refl
      where
        by : (b : Bool) → begins_text (take (suc most) bytes) ≡ b → (if b then suc most else begun_up_to bytes most) ≡ n
        by true is' = absurd (true≢false (sym (begins-shorter bytes (n + 1) (suc most) (omega arith) is') ∙ next lt))
        by false is' = more

    here : suc most ≤ n → (if begins_text (take (suc most) bytes) then suc most else begun_up_to bytes most) ≡ n
    here ge =
        let same : suc most ≡ n = omega arith in
        rw (ap (λ m. begins_text (take m bytes)) same ∙ is) same

pub offset-at : (bytes : List ℕ) (n : ℕ) → n < length bytes → begins_text (take n bytes) ≡ true → begins_text (take (n + 1) bytes) ≡ false → n ≡ fault_offset bytes
offset-at bytes n fits is next = sym (begun-at bytes n (length bytes) (omega arith) is (λ h. next))

pub offset-end : (bytes : List ℕ) → begins_text (take (length bytes) bytes) ≡ true → length bytes ≡ fault_offset bytes
offset-end bytes is = sym (begun-at bytes (length bytes) (length bytes) (omega arith) is (λ h. absurd (omega arith)))

pub false-when : (b : Bool) → (b ≡ true → ⊥) → false ≡ b
false-when true wrong = absurd (wrong refl)
false-when false wrong = refl
