-- The rows that a row reaches, and a grammar of these alone.
use Rattle.std.specs.Prelude.{◌≡◌, ℕ, ◌+◌, ◌≤◌, ◌⊎◌, Contains, Bool, true, false, List, [], ◌∷◌, All, Option, Some, length, map, slice_get}
use Rattle.cu_lex.specs.declared.token.Token.{Token}
use Rattle.cu_lex.specs.Reading.{lexeme_of}
use Rattle.cu_peg.specs.Inside.Closure.{marked, unmarked}
use Rattle.cu_peg.specs.declared.row.Row.{Row}
use Rattle.cu_peg.specs.declared.row.Row.TheVariants as row
use Rattle.cu_peg.specs.declared.table.End.{End}
use Rattle.cu_peg.specs.Inside.Ends.{IsRight}
use Rattle.cu_peg.specs.Result.{has_at}
use Rattle.cu_peg.specs.WellFormed.{named}

-- The rows that are marked name no rows but marked ones.
abbrev pub IsClosedSet : List Row → List Bool → Type 0
IsClosedSet rows marks = (r : ℕ) (e : Row) → marked marks r ≡ true → slice_get rows r ≡ Some e
    → All (λ p. marked marks p ≡ true) (named e)

-- The start row is marked, and the rows that are marked name no rows but marked ones.
pub record IsReached (rows : List Row) (start : ℕ) (marks : List Bool) : Type 0 where
  pub start_in : marked marks start ≡ true
  pub closed : IsClosedSet rows marks

-- the row itself where it is marked, and else a row that matches nothing
abbrev pub kept_row : Bool → Row → Row
kept_row true e = e
kept_row false e = row.Choice []

-- the rows that are marked, and in place of each other row one that matches nothing
abbrev pub kept : List Bool → List Row → List Row
kept marks [] = []
kept [] (e ∷ rows) = row.Choice [] ∷ kept [] rows
kept (mark ∷ marks) (e ∷ rows) = kept_row mark e ∷ kept marks rows

-- All that a table says of the rows that the start row reaches is right.
pub record IsTableOf (rows : List Row) (start : ℕ) (tokens : List Token)
    (table : List (List (Option End))) : Type 0 where
  pub marks : List Bool
  pub reached : IsReached rows start marks
  pub right : (names : List (List ℕ))
      → IsRight (kept marks rows) (has_at (map (lexeme_of names) tokens)) (length tokens) table

-- Rows were marked, and those that hadn't been were put on the list of rows whose parts are still
-- to be marked.
pub record Spreads (marks : List Bool) (pending : List ℕ) (marks' : List Bool)
    (pending' : List ℕ) : Type 0 where
  pub long : length marks' ≡ length marks
  pub grows : (r : ℕ) → marked marks r ≡ true → marked marks' r ≡ true
  pub fresh : (r : ℕ) → marked marks' r ≡ true → (marked marks r ≡ true) ⊎ Contains pending' r
  pub keeps : (r : ℕ) → Contains pending r → Contains pending' r
  pub known : ((r : ℕ) → Contains pending r → marked marks r ≡ true) → (r : ℕ) → Contains pending' r
      → marked marks' r ≡ true
  pub fewer : unmarked marks' + unmarked marks' + length pending'
      ≤ unmarked marks + unmarked marks + length pending
