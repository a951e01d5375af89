-- Tables of numbers that belong to names, under a table of names.
use Rattle.std.specs.HashMap.{get}
use Rattle.std.specs.Prelude.{◌≡◌, ℕ, List, ◌++◌, Option, None, Some}
use Rattle.cu_names.specs.Texts.{IsKnown, text_of}
use Rattle.cu_declared.specs.contracts.numbers.KeyPartialEq.TheImpl.{eq-value}
use Rattle.cu_declared.specs.declared.numbers.Key.{Key}
use Rattle.cu_declared.specs.declared.numbers.Numbers.{Numbers}
use Rattle.cu_declared.specs.Parameters.{Numbered, number_at}

abbrev pub first_or : Option ℕ → ℕ → ℕ
first_or None n = n
first_or (Some found) n = found

abbrev pub number_for : List (List ℕ) → List Numbered → Key → Option ℕ
number_for names numbers k = number_at numbers (text_of names k.owner) (text_of names k.name)

-- Look-ups give each name of a module the number that belongs to it, if there is one.
pub record AreNumbers (names : List (List ℕ)) (numbers : List Numbered) (found : Key → Option ℕ)
    : Type 0 where
  pub gives : (k : Key) → IsKnown names k.owner → IsKnown names k.name
      → found k ≡ number_for names numbers k

pub record Have (names : List (List ℕ)) (numbers : List Numbered) (table : Numbers) : Type 0 where
  pub are : AreNumbers names numbers (get eq-value.it table.numbers)

-- the table of numbers has these besides those that it had
pub record Gains (names : List (List ℕ)) (before : Numbers) (added : List Numbered)
    (after : Numbers) : Type 0 where
  pub gains : (numbers : List Numbered) → Have names numbers before
      → Have names (numbers ++ added) after
