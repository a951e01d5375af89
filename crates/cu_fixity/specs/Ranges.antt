-- The operator at the top of the tree of some items, and what is left to group while trees are
-- built from the top.
use Rattle.std.specs.Prelude.{◌≡◌, ℕ, ◌+◌, ◌-◌, ◌*◌, ◌<◌, ◌≤◌, ◌∷◌, ◌++◌, Bool, true, ◌&&◌, ◌||◌, List, [], Option, None, Some, drop, if◌then◌else◌, length, nat_eq, nat_lt, slice_get, take}
use Rattle.std.specs.Option.{option_map}
use Rattle.cu_fixity.specs.declared.fixity.Fixity.{Fixity}
use Rattle.cu_syntax.specs.declared.items.Side.TheVariants.{Left}
use Rattle.cu_fixity.specs.declared.grouping.Task.{Task}
use Rattle.cu_fixity.specs.declared.grouping.Under.{Under}
use Rattle.cu_fixity.specs.declared.grouping.Under.TheVariants as under
use Rattle.cu_fixity.specs.declared.piece.Piece.{Piece}
use Rattle.cu_fixity.specs.declared.piece.Piece.TheVariants as piece
use Rattle.cu_fixity.specs.declared.tree.Cell.{Cell}
use Rattle.cu_fixity.specs.declared.tree.Cell.TheVariants as cell
use Rattle.cu_fixity.specs.Grouping.{Grouped, Infix, Item, Operand, Prefix, Tree, fits_after, fits_left, fits_right, same_side, top}
use Rattle.cu_fixity.specs.Pieces.{fixity_at, items_of}
use Rattle.cu_fixity.specs.Spelling.{spelled}

-- an operator at a place of a list of items
pub record Candidate (O : Type 0) : Type 0 where
  pub at : ℕ
  pub operator : O

-- whether a later operator stands above an earlier one: it is of a lower level, or of the same and
-- grouped to the left
abbrev pub is_above : Fixity → Fixity → Bool
is_above later earlier = nat_lt later.level earlier.level
    || (nat_eq later.level earlier.level && same_side later.side Left)

abbrev pub better : {O : Type 0} → (O → Fixity) → Option (Candidate O) → Candidate O → Candidate O
better fixity None later = later
better fixity (Some earlier) later = if is_above (fixity later.operator) (fixity earlier.operator)
    then later else earlier

-- the operator that stands above the others, and above what came before, where the first item has
-- the place n
abbrev pub root : {A O : Type 0} → (O → Fixity) → ℕ → Option (Candidate O) → List (Item A O)
    → Option (Candidate O)
root fixity n before [] = before
root fixity n before (Operand a ∷ items) = root fixity (n + 1) before items
root fixity n before (Prefix o ∷ items) =
    root fixity (n + 1) (Some (better fixity before (record { at = n; operator = o }))) items
root fixity n before (Infix o ∷ items) =
    root fixity (n + 1) (Some (better fixity before (record { at = n; operator = o }))) items

-- an operator whose number is its place
abbrev pub candidate : Option ℕ → Option (Candidate ℕ)
candidate = option_map (λ n. record { at = n; operator = n })

-- the number of the earlier operator, if there is one, or of this piece: the one that stands above
-- the other
abbrev pub raised_by : (ℕ → Fixity) → Option ℕ → ℕ → Option Piece → Option ℕ
raised_by fixity earlier n (Some piece.Operand) = earlier
raised_by fixity None n _ = Some n
raised_by fixity (Some earlier) n _ = if is_above (fixity n) (fixity earlier) then Some n
    else Some earlier

abbrev pub raised : List Piece → Option ℕ → ℕ → Option ℕ
raised pieces earlier n = raised_by (fixity_at pieces) earlier n (slice_get pieces n)

-- the items from one place up to another
abbrev pub between : {A : Type 0} → ℕ → ℕ → List A → List A
between from to items = take (to - from) (drop from items)

-- whether a tree with this operator at its top, or none, fits where it is to stand
abbrev pub fits : (ℕ → Fixity) → Under → Option ℕ → Bool
fits fixity under.Nothing p = true
fits fixity (under.Minus n) p = fits_after fixity n p
fits fixity (under.LeftOf n) p = fits_left fixity n p
fits fixity (under.RightOf n) p = fits_right fixity n p

-- A tree solves a task: its items are the task's range of the pieces, its operands fit, and it fits
-- where it is to stand.
pub record Solves (pieces : List Piece) (task : Task) (tree : Tree ℕ ℕ) : Type 0 where
  pub grouped : Grouped (fixity_at pieces) (between task.from task.to (items_of pieces)) tree
  pub fits : fits (fixity_at pieces) task.under (top tree) ≡ true

abbrev pub SolveAll : List Piece → List Task → List (Tree ℕ ℕ) → Type 0
SolveAll pieces [] [] = Unit {0}
SolveAll pieces (task ∷ tasks) (tree ∷ trees) =
    Solves pieces task tree × SolveAll pieces tasks trees
SolveAll pieces _ _ = ⊥

abbrev pub spelled_all : List (Tree ℕ ℕ) → List Cell
spelled_all [] = []
spelled_all (t ∷ trees) = spelled t ++ spelled_all trees

-- what is left of a task below the operator at the top of its tree
abbrev pub parts : Task → Cell → List Task
parts task (cell.Operand n) = []
parts task (cell.Minus n) = (record { from = n + 1; to = task.to; under = under.Minus n }) ∷ []
parts task (cell.Operator n) =
    (record { from = task.from; to = n; under = under.LeftOf n })
    ∷ (record { from = n + 1; to = task.to; under = under.RightOf n }) ∷ []

-- the number of a cell's piece
abbrev pub number : Cell → ℕ
number (cell.Operand n) = n
number (cell.Minus n) = n
number (cell.Operator n) = n

-- The trees that solve a task are those that begin with this cell of its range and go on with trees
-- that solve the parts.
pub record IsHead (pieces : List Piece) (task : Task) (c : Cell) : Type 0 where
  pub after : task.from ≤ number c
  pub before : number c < task.to
  pub taken : (tree : Tree ℕ ℕ) → Solves pieces task tree
      → (trees : List (Tree ℕ ℕ)) × SolveAll pieces (parts task c) trees
      × (spelled tree ≡ c ∷ spelled_all trees)
  pub given : (trees : List (Tree ℕ ℕ)) → SolveAll pieces (parts task c) trees
      → (tree : Tree ℕ ℕ) × Solves pieces task tree × (spelled tree ≡ c ∷ spelled_all trees)

abbrev pub HasNoHead : List Piece → Task → Type 0
HasNoHead pieces task = (tree : Tree ℕ ℕ) → ¬ (Solves pieces task tree)

-- a task's range lies within so many pieces
pub record IsWithin (count : ℕ) (task : Task) : Type 0 where
  pub rises : task.from ≤ task.to
  pub ends : task.to ≤ count

abbrev pub AllWithin : ℕ → List Task → Type 0
AllWithin count [] = Unit {0}
AllWithin count (task ∷ tasks) = IsWithin count task × AllWithin count tasks

-- a measure of tasks: it is greater than that of what is left of the first of them
abbrev pub weight : List Task → ℕ
weight [] = 0
weight (task ∷ tasks) = 2 * (task.to - task.from) + 1 + weight tasks

-- The trees of all pieces are those that these cells spell, followed by trees that solve the tasks
-- in order.
pub record Builds (pieces : List Piece) (cells : List Cell) (tasks : List Task) : Type 0 where
  pub within : AllWithin (length pieces) tasks
  pub taken : (tree : Tree ℕ ℕ) → Grouped (fixity_at pieces) (items_of pieces) tree
      → (trees : List (Tree ℕ ℕ)) × SolveAll pieces tasks trees
      × (spelled tree ≡ cells ++ spelled_all trees)
  pub given : (trees : List (Tree ℕ ℕ)) → SolveAll pieces tasks trees
      → (tree : Tree ℕ ℕ) × Grouped (fixity_at pieces) (items_of pieces) tree
      × (spelled tree ≡ cells ++ spelled_all trees)
