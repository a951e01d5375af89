-- Conditions that suffice for the rows of a grammar to match or fail on every text, after those of
-- well-formed parsing expression grammars (Ford, 2004). They look at the table alone, and looking
-- ahead always counts as taking nothing.
use Rattle.std.specs.Prelude.{◌≡◌, ℕ, ◌<◌, ◌⊎◌, Bool, List, [], ◌∷◌, IsTrue, Some, length, nat_lt, slice_get}
use Rattle.std.specs.List.{list_all}
use Rattle.cu_peg.specs.declared.row.Row.{Row}
use Rattle.cu_peg.specs.declared.row.Row.TheVariants as row

-- the numbers that a row names
abbrev pub named : Row → List ℕ
named (row.Token c) = []
named (row.Sequence ps) = ps
named (row.Choice ps) = ps
named (row.Optional p) = p ∷ []
named (row.Many p) = p ∷ []
named (row.AtLeastOne p) = p ∷ []
named (row.SeparatedBy p s) = p ∷ s ∷ []
named (row.Ahead p) = p ∷ []
named (row.NotAhead p) = p ∷ []

-- whether every number named is a row's
abbrev pub is_closed : List Row → Bool
is_closed rows = list_all (λ e. list_all (λ p. nat_lt p (length rows)) (named e)) rows

-- Every number named is a row's.
abbrev pub IsClosed : List Row → Type 0
IsClosed rows = IsTrue (is_closed rows)

mutual
  -- A row may match without taking a token, as far as the table tells.
  pub data IsNullable (rows : List Row) : ℕ → Type 0 where
    nullable : (r : ℕ) (e : Row) → slice_get rows r ≡ Some e → RowIsNullable rows e
        → IsNullable rows r

  pub data RowIsNullable (rows : List Row) : Row → Type 0 where
    empty : RowIsNullable rows (row.Sequence [])
    sequence : (p : ℕ) (ps : List ℕ) → IsNullable rows p → RowIsNullable rows (row.Sequence ps)
        → RowIsNullable rows (row.Sequence (p ∷ ps))
    first : (p : ℕ) (ps : List ℕ) → IsNullable rows p → RowIsNullable rows (row.Choice (p ∷ ps))
    later : (p : ℕ) (ps : List ℕ) → RowIsNullable rows (row.Choice ps)
        → RowIsNullable rows (row.Choice (p ∷ ps))
    optional : (p : ℕ) → RowIsNullable rows (row.Optional p)
    many : (p : ℕ) → RowIsNullable rows (row.Many p)
    at_least_one : (p : ℕ) → IsNullable rows p → RowIsNullable rows (row.AtLeastOne p)
    separated : (p s : ℕ) → IsNullable rows p → RowIsNullable rows (row.SeparatedBy p s)
    ahead : (p : ℕ) → RowIsNullable rows (row.Ahead p)
    not_ahead : (p : ℕ) → RowIsNullable rows (row.NotAhead p)

-- A row may call a part before it has taken a token.
pub data RowCalls (rows : List Row) : Row → ℕ → Type 0 where
  first_part : (p : ℕ) (ps : List ℕ) → RowCalls rows (row.Sequence (p ∷ ps)) p
  later_part : (p : ℕ) (ps : List ℕ) (q : ℕ) → IsNullable rows p → RowCalls rows (row.Sequence ps) q
      → RowCalls rows (row.Sequence (p ∷ ps)) q
  first_alternative : (p : ℕ) (ps : List ℕ) → RowCalls rows (row.Choice (p ∷ ps)) p
  later_alternative : (p : ℕ) (ps : List ℕ) (q : ℕ) → RowCalls rows (row.Choice ps) q
      → RowCalls rows (row.Choice (p ∷ ps)) q
  optional_part : (p : ℕ) → RowCalls rows (row.Optional p) p
  many_part : (p : ℕ) → RowCalls rows (row.Many p) p
  at_least_one_part : (p : ℕ) → RowCalls rows (row.AtLeastOne p) p
  separated_part : (p s : ℕ) → RowCalls rows (row.SeparatedBy p s) p
  separator : (p s : ℕ) → IsNullable rows p → RowCalls rows (row.SeparatedBy p s) s
  ahead_part : (p : ℕ) → RowCalls rows (row.Ahead p) p
  not_ahead_part : (p : ℕ) → RowCalls rows (row.NotAhead p) p

-- The row of a number may call the row of another before it has taken a token.
pub record Calls (rows : List Row) (r q : ℕ) : Type 0 where
  pub caller : Row
  pub is : slice_get rows r ≡ Some caller
  pub calls : RowCalls rows caller q

-- A row calls another in one or more steps, before it has taken a token.
pub data Reaches (rows : List Row) : ℕ → ℕ → Type 0 where
  one : (r q : ℕ) → Calls rows r q → Reaches rows r q
  more : (r p q : ℕ) → Calls rows r p → Reaches rows p q → Reaches rows r q

-- A row may call itself without taking a token.
abbrev pub IsLeftRecursive : List Row → ℕ → Type 0
IsLeftRecursive rows r = Reaches rows r r

-- A row repeats a part that may match without taking a token. What a separated row repeats is the
-- separator and then the part.
pub data RowRepeatsNullable (rows : List Row) : Row → Type 0 where
  repeated_many : (p : ℕ) → IsNullable rows p → RowRepeatsNullable rows (row.Many p)
  repeated_at_least_one : (p : ℕ) → IsNullable rows p → RowRepeatsNullable rows (row.AtLeastOne p)
  repeated_separated : (p s : ℕ) → IsNullable rows p → IsNullable rows s
      → RowRepeatsNullable rows (row.SeparatedBy p s)

pub record RepeatsNullable (rows : List Row) (r : ℕ) : Type 0 where
  pub repeater : Row
  pub is : slice_get rows r ≡ Some repeater
  pub repeats : RowRepeatsNullable rows repeater

-- A row may match without end: it is left recursive, or it repeats what may match without taking a
-- token.
abbrev pub IsEndless : List Row → ℕ → Type 0
IsEndless rows r = IsLeftRecursive rows r ⊎ RepeatsNullable rows r

-- No row may match without end.
abbrev pub IsWellFormed : List Row → Type 0
IsWellFormed rows = (r : ℕ) → ¬ (IsEndless rows r)

-- A row is the first that may match without end.
pub record IsFirstEndless (rows : List Row) (r : ℕ) : Type 0 where
  pub endless : IsEndless rows r
  pub first : (q : ℕ) → q < r → ¬ (IsEndless rows q)
