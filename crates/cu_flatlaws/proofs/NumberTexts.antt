-- Numbers, and names with numbers in them, as both definitions of the text write them.
use Rattle.std.proofs.Common.{◌≡◌, ℕ, zero, suc, ◌+◌, ◌/◌, ◌%◌, ◌^◌, ◌≤◌, ◌<◌, List, [], ◌∷◌, ◌++◌, codes, decimal, flat_map, map, ne_eqb, refl, sym, ap, ◌∙◌, arith, append_assoc}
use Rattle.std.proofs.lemmas.Fmt.{decimal_by_steps_wide}
use Rattle.cu_flatlaws.specs.PrintedExpressions.{apply_entity, set_entity}
use Rattle.cu_flatlaws.specs.PrintedTypes.{numbers_from}
use Rattle.cu_flatread.specs.Notation.{entity_text, escaped_byte}
use Rattle.cu_flattext.specs.ExpressionTexts.{apply_text, set_text}
use Rattle.cu_flattext.specs.TypeTexts as texts

pub numbers_agree : (n count : ℕ) → texts.numbers_from n count ≡ map decimal (numbers_from n count)
numbers_agree n zero = refl
numbers_agree n (suc count) = ap (λ (ns : List (List ℕ)). decimal n ∷ ns) (numbers_agree (n + 1) count)

-- ---- digits

-- all bytes are digits
abbrev pub Digits : List ℕ → Type 0
Digits [] = Unit {0}
Digits (b ∷ bs) = (48 ≤ b) × (b ≤ 57) × Digits bs

digits_more : (ds : List ℕ) (b : ℕ) → 48 ≤ b → b ≤ 57 → Digits ds → Digits (ds ++ b ∷ [])
digits_more [] b low high h = (low, high, tt)
digits_more (d ∷ ds) b low high h = (h.0, h.1, digits_more ds b low high h.2)

pub decimal_digits : (n : ℕ) → n < 10 ^ 64 → Digits (decimal n)
decimal_digits n small =
    decimal_by_steps_wide (λ m ds. Digits ds) one more n small
  where
    one : (m : ℕ) → m < 10 → Digits ((48 + m) ∷ [])
    one m low = (omega arith, omega arith, tt)

    more : (m : ℕ) (ds : List ℕ) → 10 ≤ m → Digits ds → Digits (ds ++ (48 + m % 10) ∷ [])
    more m ds large before = digits_more ds (48 + m % 10) (omega arith) (omega arith) before

-- digits stand in a quoted text as they are
pub digits_plain : (ds : List ℕ) → Digits ds → flat_map escaped_byte ds ≡ ds
digits_plain [] h = refl
digits_plain (d ∷ ds) h =
    let high : d ≤ 57 = h.1 in
    rw (ne_eqb d 92 (λ e. omega (arith, e, high))) (ap (λ (z : List ℕ). d ∷ z) (digits_plain ds h.2))

-- ---- names

pub set_agrees : (n : ℕ) → n < 10 ^ 64 → set_text n ≡ entity_text (set_entity n)
unfolding set_text
set_agrees n small =
    let plain : flat_map escaped_byte (decimal n) ≡ decimal n = digits_plain (decimal n) (decimal_digits n small) in
    ap (λ (z : List ℕ). codes "(\"SetFunctions\",\"set" ++ z)
    (sym (ap (λ (z : List ℕ). (z ++ codes "\"") ++ codes ")") plain ∙ append_assoc (decimal n) (codes "\"") (codes ")")))

pub apply_agrees : apply_text ≡ codes "FuncCall " ++ entity_text apply_entity
unfolding apply_text
apply_agrees = refl
