-- The numbers of options.
use Rattle.std.specs.Prelude.{◌≡◌, ◌≤◌, ℕ, List, length, IsTrue}
use Rattle.std.specs.List.{list_all}
use Rattle.std.specs.Str.Parse.{digits_value}
use Rattle.cu_words.specs.Names.{is_digit}

abbrev pub IsIn : ℕ → ℕ → ℕ → Type 0
IsIn low high n = (low ≤ n) × (n ≤ high)

-- the text is a number from `low` to `high`, in 1 to 19 decimal digits
pub record IsNumber (low high : ℕ) (text : List ℕ) (n : ℕ) : Type 0 where
  pub some : 1 ≤ length text
  pub few : length text ≤ 19
  pub digits : IsTrue (list_all is_digit text)
  pub value : n ≡ digits_value 10 text
  pub range : IsIn low high n
