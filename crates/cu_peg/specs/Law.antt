-- Laws of the definition of matching.
use Rattle.std.specs.Prelude.{◌≡◌, ℕ, ◌<◌, Bool, List, length}
use Rattle.cu_peg.specs.declared.class.Class.{Class}
use Rattle.cu_peg.specs.declared.row.Row.{Row}
use Rattle.cu_peg.specs.Matches.{Fails, Matches}
use Rattle.cu_peg.specs.Parse.{ParseTree}
use Rattle.cu_peg.specs.WellFormed.{IsClosed, IsWellFormed}

-- A row that matches a text leaves one rest and gives one tree.
abbrev pub MatchesOnce : {T : Type 0} → (Class → T → Bool) → Type 0
MatchesOnce {T} has =
    (rows : List Row) (r : ℕ) (text rest other : List T) (tree another : ParseTree T)
    → Matches rows has r text rest tree → Matches rows has r text other another
    → (rest ≡ other) × (tree ≡ another)

-- No row both matches and fails on a text.
abbrev pub NeverBoth : {T : Type 0} → (Class → T → Bool) → Type 0
NeverBoth {T} has =
    (rows : List Row) (r : ℕ) (text rest : List T) (tree : ParseTree T)
    → Matches rows has r text rest tree → ¬ (Fails rows has r text)

-- A row matches a text, or fails on it.
pub data Decided {T : Type 0} (rows : List Row) (has : Class → T → Bool) (r : ℕ)
    (text : List T) : Type 0 where
  match : (rest : List T) (tree : ParseTree T) → Matches rows has r text rest tree
      → Decided rows has r text
  fail : Fails rows has r text → Decided rows has r text

-- Each row of a well-formed table matches or fails on each text.
abbrev pub IsTotal : {T : Type 0} → (Class → T → Bool) → Type 0
IsTotal {T} has = (rows : List Row) → IsClosed rows → IsWellFormed rows → (r : ℕ) → r < length rows
    → (text : List T) → Decided rows has r text
