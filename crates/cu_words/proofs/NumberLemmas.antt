-- A number of an option is one that `parse` reads.
use Rattle.std.proofs.Common.{◌≡◌, ◌∙◌, ap, refl, ℕ, ◌^◌, ◌<◌, ◌≤◌, ◌&&◌, List, [], ◌∷◌, Result, Ok, Err, arith, Bool}
use Rattle.std.specs.List.{list_all}
use Rattle.std.specs.Str.{all_ascii_digits}
use Rattle.std.specs.Str.Parse.{ParsesUnsigned}
use Rattle.std.proofs.lemmas.Str.Parse.{numerals_by_value, parse_gives, tells_all_ascii_digits}
use Rattle.cu_words.specs.Names.{is_digit}
use Rattle.cu_words.specs.Numbers.{IsNumber}

pub same_digits : (text : List ℕ) → all_ascii_digits text ≡ list_all is_digit text
same_digits [] = refl
same_digits (b ∷ bs) = ap (λ (r : Bool). is_digit b && r) (same_digits bs)

below : (value n high bound : ℕ) → n ≡ value → n ≤ high → high < bound → value < bound
below value n high bound is few fits = omega arith

never_refused : {E : Type 0} {value : ℕ} {fault : E} {r : Result ℕ E} → r ≡ Ok value → r ≡ Err fault → ⊥
never_refused is not = cc

-- a text that `parse` refuses is no number of an option
pub not_a_number : {E : Type 0} (low high : ℕ) (text : List ℕ) (r : Result ℕ E) (fault : E) → ParsesUnsigned 64 10 text r → r ≡ Err fault → high < 2 ^ 64 → (n : ℕ)
    → IsNumber low high text n → ⊥
not_a_number low high text r fault parsed is fits n number = never_refused
    (parse_gives (numerals_by_value _ tells_all_ascii_digits) 64 text r parsed (same_digits text ∙ number.digits) number.some
    (below _ n high _ number.value number.range.1 fits)) is
