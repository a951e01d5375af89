-- The reading of types by tasks.
use Rattle.std.specs.Prelude.{◌≡◌, ℕ, ◌+◌, ◌*◌, List, [], ◌∷◌, ◌++◌, Result, Ok, Err, length, map, reverse}
use Rattle.cu_flatread.specs.Inside.Types.{all_types, type_at}
use Rattle.cu_flatread.specs.Inside.Words.{Read, ◌>>=◌, after_word, joined, list_after, mark_text, more_elements}
use Rattle.cu_flatread.specs.Meaning.{HasEntity, entity_of}
use Rattle.cu_flatread.specs.Modules as m
use Rattle.cu_flatread.specs.Modules.{TypeExpression, TypeExpressions}
use Rattle.cu_flatread.specs.Notation.{Entity}
use Rattle.cu_flatread.specs.declared.cells.TypeCell.{TypeCell}
use Rattle.cu_flatread.specs.declared.cells.TypeCell.TheVariants as type
use Rattle.cu_flatread.specs.declared.stop.Stop.{Stop}
use Rattle.cu_flatread.specs.declared.stop.Stop.TheVariants as stop
use Rattle.cu_flatread.specs.declared.types.Task.{Task}
use Rattle.cu_flatread.specs.declared.types.Task.TheVariants as task

-- a cell, by the texts of its names
pub data Label : Type 0 where
  OfVariable : ℕ → Label
  OfArrow : Label
  OfNamed : Entity → Label
  OfMore : Label
  OfEnd : Label

abbrev pub label : List (List ℕ) → TypeCell → Label
label names (type.Variable x) = OfVariable x
label names type.Arrow = OfArrow
label names (type.Named e) = OfNamed (entity_of names e)
label names type.More = OfMore
label names type.End = OfEnd

-- a table has the names of a cell
abbrev pub HasCell : List (List ℕ) → TypeCell → Type 0
HasCell names (type.Named e) = HasEntity names e
HasCell names _ = Unit {0}

abbrev mutual
  -- the cells of a type
  pub labels : TypeExpression Entity → List Label
  labels (m.Variable x) = OfVariable x ∷ []
  labels (m.Arrow a b) = OfArrow ∷ (labels a ++ labels b)
  labels (m.Named e ts) = OfNamed e ∷ list_labels ts

  -- the cells of several types
  pub list_labels : TypeExpressions Entity → List Label
  list_labels m.NoType = OfEnd ∷ []
  list_labels (m.MoreTypes t ts) = OfMore ∷ (labels t ++ list_labels ts)

-- the cells that tasks read, one after another
unfoldable pub tasks_at : List Task → List ℕ → Read (List Label)
tasks_at [] bytes = Ok ([], bytes)
tasks_at (task.Type depth ∷ tasks) bytes =
    type_at depth bytes >>= λ t. joined (labels t.0) (tasks_at tasks t.1)
tasks_at (task.Mark mark ∷ tasks) bytes =
    after_word (mark_text mark) bytes >>= λ rest. tasks_at tasks rest
tasks_at (task.First depth ∷ tasks) bytes =
    list_after (type_at depth) bytes
    >>= λ ts. joined (list_labels (all_types ts.0)) (tasks_at tasks ts.1)
tasks_at (task.Next depth ∷ tasks) bytes =
    more_elements (type_at depth) (length bytes) bytes
    >>= λ ts. joined (list_labels (all_types ts.0)) (tasks_at tasks ts.1)

-- how much a task takes of the steps that are left
abbrev pub weight : Task → ℕ
weight (task.First depth) = 3
weight _ = 1

abbrev pub weights : List Task → ℕ
weights [] = 0
weights (task ∷ tasks) = weight task + weights tasks

-- how many steps are left at most
abbrev pub steps_left : List Task → List ℕ → ℕ
steps_left tasks bytes = 8 * length bytes + weights tasks

-- the cells up to now, and those that tasks read
abbrev pub cells_at : List (List ℕ) → List TypeCell → List Task → List ℕ → Read (List Label)
cells_at names cells tasks bytes = joined (map (label names) cells) (tasks_at tasks bytes)

-- what is left after a task gives what was left with it
abbrev pub Goes : {X : Type 0} → Result X Stop → List (List ℕ) → List TypeCell → List Task
    → List ℕ → List TypeCell → List Task → List ℕ → Type 0
Goes (Ok x) names cells tasks bytes cells2 tasks2 rest =
    cells_at names cells2 (reverse tasks2) rest ≡ cells_at names cells tasks bytes
Goes (Err (stop.At left)) names cells tasks bytes cells2 tasks2 rest =
    tasks_at tasks bytes ≡ Err left
Goes (Err stop.NoMemory) names cells tasks bytes cells2 tasks2 rest = Unit {0}
