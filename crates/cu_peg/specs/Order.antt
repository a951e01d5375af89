-- In which order the rows of a grammar are matched at one place: each after those that it calls
-- there.
use Rattle.std.specs.Prelude.{ℕ, ◌<◌, List, All, Contains, length, slice_index, take}
use Rattle.cu_peg.specs.declared.row.Row.{Row}
use Rattle.cu_peg.specs.WellFormed.{Calls, IsClosed, IsWellFormed}

pub record IsOrder (rows : List Row) (order : List ℕ) : Type 0 where
  pub within : All (λ r. r < length rows) order
  pub complete : (r : ℕ) → r < length rows → Contains order r
  pub after_calls : (i q : ℕ) → i < length order → Calls rows (slice_index order i) q
      → Contains (take i order) q

-- Rows are a grammar: they are closed and well-formed, and the order has each row after those that
-- it calls.
pub record IsGrammar (rows : List Row) (order : List ℕ) : Type 0 where
  pub closed : IsClosed rows
  pub well_formed : IsWellFormed rows
  pub ordered : IsOrder rows order
