-- The tasks that are left while a value is displayed, and the texts that they come to.
use Rattle.std.specs.Prelude.{◌≡◌, ℕ, ◌+◌, ◌-◌, ◌*◌, ◌≤◌, Bool, true, false, ◌&&◌, List, [], ◌∷◌, ◌++◌, codes, drop, length, reverse}
use Rattle.cu_calculus.specs.declared.Lit.TheVariants as lit
use Rattle.cu_calculus.specs.Value as value
use Rattle.cu_calculus.specs.Value.{Value, Values, count}
use Rattle.cu_values.specs.declared.cell.Cell.{Cell}
use Rattle.cu_values.specs.declared.cell.Cell.TheVariants as cell
use Rattle.cu_values.specs.declared.task.Task.{Task}
use Rattle.cu_values.specs.declared.task.Task.TheVariants as task
use Rattle.cu_values.specs.Cells.{suffix, first, prefix, read_all, IsSpelled}
use Rattle.cu_values.specs.Display.{arguments, display, further_components, further_elements, in_parentheses, is_list, is_open, open_rest, takes_parentheses, Labels}

-- the character of a cell, or the character 0 where it has none
abbrev pub character_of : Cell → ℕ
character_of (cell.Lit (lit.Char c)) = c
character_of _ = 0

-- whether a value is a list of characters alone, whatever its constructors
abbrev pub are_characters : Value → Bool
are_characters (value.Constructed c value.NoValue) = true
are_characters
    (value.Constructed c (value.MoreValues (value.Literal (lit.Char x))
    (value.MoreValues rest value.NoValue))) = are_characters rest
are_characters _ = false

-- how many of the values that are left a task takes
abbrev pub takes : Task → ℕ
takes task.Alone = 1
takes task.Argument = 1
takes (task.Arguments n) = n
takes (task.Components n) = n
takes task.Elements = 1
takes task.OpenRest = 1
takes task.ClosingParenthesis = 0
takes task.ClosingBracket = 0

-- the text of a task, on the values that are left
abbrev pub part : Labels → Task → Values → List ℕ
part labels task.Alone vs = display labels (first vs)
part labels task.Argument vs =
    in_parentheses (takes_parentheses labels (first vs)) (display labels (first vs))
part labels (task.Arguments n) vs = arguments labels (prefix n vs)
part labels (task.Components n) vs = further_components labels (prefix n vs)
part labels task.Elements vs = further_elements labels (first vs)
part labels task.OpenRest vs = codes ":" ++ open_rest labels (first vs)
part labels task.ClosingParenthesis vs = codes ")"
part labels task.ClosingBracket vs = codes "]"

-- the text of several tasks on the values that are left, where the first task takes the first
-- values
abbrev pub written : Labels → List Task → Values → List ℕ
written labels [] vs = []
written labels (t ∷ ts) vs = part labels t vs ++ written labels ts (suffix (takes t) vs)

-- how many values several tasks take together
abbrev pub due : List Task → ℕ
due [] = 0
due (t ∷ ts) = takes t + due ts

-- Whether a value is what the task goes on with: a list that has an end for `Elements`, and one
-- that ends in a variable for `OpenRest`. Other tasks take any value.
abbrev pub fit : Labels → Task → Value → Bool
fit labels task.Elements v = is_list labels v
fit labels task.OpenRest v = is_open labels v
fit labels _ v = true

-- whether each task gets a value that it can go on with
abbrev pub all_fit : Labels → List Task → Values → Bool
all_fit labels [] vs = true
all_fit labels (t ∷ ts) vs = fit labels t (first vs) && all_fit labels ts (suffix (takes t) vs)

-- The tasks, the last one first, take exactly the values of the cells from an index on.
pub record Ready (labels : Labels) (cells : List Cell) (at : ℕ) (tasks : List Task) : Type 0 where
  pub within : at ≤ length cells
  pub spelled : IsSpelled (drop at cells)
  pub due : due (reverse tasks) ≡ count (read_all (drop at cells))
  pub fit : all_fit labels (reverse tasks) (read_all (drop at cells)) ≡ true

-- A part of the display was written. What is written and the text of the tasks that are left come
-- to the same whole as before, and what is left is less, by a weight.
pub record Step (labels : Labels) (cells : List Cell) (weight at : ℕ) (tasks : List Task)
    (text : List ℕ) (next : ℕ) (others : List Task) (longer : List ℕ) : Type 0 where
  pub ready : Ready labels cells next others
  pub same : longer ++ written labels (reverse others) (read_all (drop next cells))
      ≡ text ++ written labels (reverse tasks) (read_all (drop at cells))
  pub less : 8 * (length cells - next) + length others + weight
      ≤ 8 * (length cells - at) + length tasks
