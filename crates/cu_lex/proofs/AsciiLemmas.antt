-- Classes of characters, by what they are at the 128 codes of ASCII.
use Rattle.std.proofs.Common.{◌≡◌, ℕ, zero, suc, ◌<◌, ◌≤◌, ⊎_elim, Bool, true, false, ◌&&◌, ◌||◌, ◌==◌, not, List, [], ◌∷◌, ◌++◌, refl, sym, ap, ◌∙◌, arith, true≢false, eqb-true, ne_eqb, nat_le, nat_lt, codes}
use Rattle.std.proofs.lemmas.Bool.{cases_lt, lt-leb, leb-true, ltb-true}
use Rattle.std.proofs.lemmas.Str.{encode_ascii}
use Rattle.std.specs.Char.{is_ascii_digit, is_ascii_lowercase, is_ascii_uppercase, is_ascii_alphanumeric}
use Rattle.std.specs.Int.{is_in_range}
use Rattle.std.specs.List.{list_all, list_any}
use Rattle.std.specs.Str.{byte}
use lib.Utf8.{encodes}
use Rattle.cu_lex.specs.Words.{is_name_character, is_separator, is_symbol}

-- ---- tests at all codes below a number

abbrev pub all_below : ℕ → (ℕ → Bool) → Bool
all_below zero p = true
all_below (suc n) p = p n && all_below n p

pub and-left : (a b : Bool) → a && b ≡ true → a ≡ true
and-left true b is = refl
and-left false b is = is

pub and-right : (a b : Bool) → a && b ≡ true → b ≡ true
and-right true b is = is
and-right false b is = absurd (true≢false (sym is))

pub and-both : (a b : Bool) → a ≡ true → b ≡ true → a && b ≡ true
and-both a b is is' = rw (is, is') refl

pub or-false : (a b : Bool) → a ≡ false → b ≡ false → a || b ≡ false
or-false a b is is' = rw (is, is') refl

pub at_below : (n : ℕ) (p : ℕ → Bool) → all_below n p ≡ true → (c : ℕ) → c < n → p c ≡ true
at_below zero p all c small = absurd (omega arith)
at_below (suc n) p all c small = ⊎_elim (λ lt. at_below n p (and-right (p n) (all_below n p) all) c lt) here (cases_lt c n)
  where
    here : n ≤ c → p c ≡ true
    here ge =
        let same : c ≡ n = omega arith in
        ap p same ∙ and-left (p n) (all_below n p) all

-- a class within another, and classes apart
pub within-class : (p q : ℕ → Bool) → all_below 128 (λ c. not (p c) || q c) ≡ true → (c : ℕ) → c < 128 → p c ≡ true → q c ≡ true
within-class p q all c small is = by (p c) (q c) is (at_below 128 (λ x. not (p x) || q x) all c small)
  where
    by : (a b : Bool) → a ≡ true → not a || b ≡ true → b ≡ true
    by true b is both = both
    by false b is both = absurd (true≢false (sym is))

pub apart : (p q : ℕ → Bool) → all_below 128 (λ c. not (p c && q c)) ≡ true → (c : ℕ) → c < 128 → p c ≡ true → q c ≡ false
apart p q all c small is = by (p c) (q c) is (at_below 128 (λ x. not (p x && q x)) all c small)
  where
    by : (a b : Bool) → a ≡ true → not (a && b) ≡ true → b ≡ false
    by true true is both = cc
    by true false is both = refl
    by false b is both = absurd (true≢false (sym is))

-- ---- the classes are within ASCII

pub above_range : (lo hi c : ℕ) → hi < c → is_in_range lo hi c ≡ false
above_range lo hi c above = by (nat_le lo c)
  where
    by : (b : Bool) → b && nat_le c hi ≡ false
    by true = lt-leb c hi above
    by false = refl

in_range-small : (lo hi c : ℕ) → is_in_range lo hi c ≡ true → c ≤ hi
in_range-small lo hi c is = leb-true c hi (and-right (nat_le lo c) (nat_le c hi) is)

any_below : (m c : ℕ) (cs : List ℕ) → list_all (λ s. nat_lt s m) cs ≡ true → m ≤ c → list_any (λ s. c == s) cs ≡ false
any_below m c [] small above = refl
any_below m c (s ∷ cs) small above =
    let first : s < m = ltb-true s m (and-left (nat_lt s m) (list_all (λ s. nat_lt s m) cs) small) in
    let apart : c ≡ s → ⊥ = λ is. absurd (omega arith) in
    rw (ne_eqb c s apart) (any_below m c cs (and-right (nat_lt s m) (list_all (λ s. nat_lt s m) cs) small) above)

pub small-symbol : (c : ℕ) → is_symbol c ≡ true → c < 128
unfolding is_symbol
small-symbol c is = ⊎_elim (λ lt. lt) (λ ge. absurd (true≢false (sym is ∙ any_below 128 c (codes "~!@#$%^&*+-=<>?./|\\:") refl ge))) (cases_lt c 128)

pub small-separator : (c : ℕ) → is_separator c ≡ true → c < 128
unfolding is_separator
small-separator c is = ⊎_elim (λ lt. lt) (λ ge. absurd (true≢false (sym is ∙ any_below 128 c (codes " \t\r\n\u{c}") refl ge))) (cases_lt c 128)

pub small-name : (c : ℕ) → is_name_character c ≡ true → c < 128
unfolding is_name_character
small-name c is = ⊎_elim (λ lt. lt) (λ ge. absurd (true≢false (sym is ∙ none ge))) (cases_lt c 128)
  where
    none : 128 ≤ c → is_ascii_alphanumeric c || (c == byte "_" || c == byte "'") ≡ false
    none ge =
        let underscore : c ≡ 95 → ⊥ = λ at. absurd (omega arith) in
        let prime : c ≡ 39 → ⊥ = λ at. absurd (omega arith) in
        let digits : 57 < c = omega arith in
        let capitals : 90 < c = omega arith in
        let letters : 122 < c = omega arith in
        rw (above_range 48 57 c digits, above_range 65 90 c capitals, above_range 97 122 c letters, ne_eqb c 95 underscore, ne_eqb c 39 prime) refl

pub small-capital : (c : ℕ) → is_ascii_uppercase c ≡ true → c < 128
small-capital c is = let most = in_range-small 65 90 c is in omega arith

pub small-small : (c : ℕ) → is_ascii_lowercase c ≡ true → c < 128
small-small c is = let most = in_range-small 97 122 c is in omega arith

pub small-digit : (c : ℕ) → is_ascii_digit c ≡ true → c < 128
small-digit c is = let most = in_range-small 48 57 c is in omega arith

-- the bytes of ASCII characters are the characters
pub encodes-class : (class : ℕ → Bool) (cs : List ℕ) → ((c : ℕ) → class c ≡ true → c < 128) → list_all class cs ≡ true → encodes cs ≡ cs
encodes-class class [] small all = refl
encodes-class class (c ∷ cs) small all =
    ap (λ t. t ++ encodes cs) (encode_ascii c (small c (and-left (class c) (list_all class cs) all)))
    ∙ ap (λ t. c ∷ t) (encodes-class class cs small (and-right (class c) (list_all class cs) all))

-- ---- one class within another

pub capital-name : (c : ℕ) → is_ascii_uppercase c ≡ true → is_name_character c ≡ true
unfolding is_name_character
capital-name c is = within-class is_ascii_uppercase is_name_character refl c (small-capital c is) is

pub small-name-character : (c : ℕ) → is_ascii_lowercase c ≡ true → is_name_character c ≡ true
unfolding is_name_character
small-name-character c is = within-class is_ascii_lowercase is_name_character refl c (small-small c is) is

pub underscore-name : (c : ℕ) → (c == byte "_") ≡ true → is_name_character c ≡ true
unfolding is_name_character
underscore-name c is =
    let at : c ≡ 95 = eqb-true c 95 is in
    rw at refl
