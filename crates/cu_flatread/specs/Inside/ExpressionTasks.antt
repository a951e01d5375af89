-- The reading of expressions by tasks.
use Rattle.std.specs.Prelude.{◌≡◌, ℕ, ◌+◌, ◌*◌, Bool, true, false, List, [], ◌∷◌, ◌++◌, Result, Ok, Err, codes, length, map, reverse}
use Rattle.cu_calculus.specs.declared.Lit.{Lit}
use Rattle.cu_calculus.specs.declared.Mode.{Mode}
use Rattle.cu_flatread.specs.Inside.Expressions.{all_branches, all_expressions, branch_at, branch_pattern_at, expression_at, expression_words, kind_at, mode_words}
use Rattle.cu_flatread.specs.Inside.Names.{entity_at}
use Rattle.cu_flatread.specs.Inside.Numbers.{literal_at, number_at}
use Rattle.cu_flatread.specs.Inside.Words.{Read, ◌>>=◌, after_word, joined, list_after, mark_text, more_elements, one_of}
use Rattle.cu_flatread.specs.Meaning.{HasEntity, entity_of}
use Rattle.cu_flatread.specs.Modules as m
use Rattle.cu_flatread.specs.Modules.{Branches, Expression, Expressions, Pattern}
use Rattle.cu_flatread.specs.Notation.{Entity}
use Rattle.cu_flatread.specs.declared.cells.CombKind.{CombKind}
use Rattle.cu_flatread.specs.declared.cells.ExpressionCell.{ExpressionCell}
use Rattle.cu_flatread.specs.declared.cells.ExpressionCell.TheVariants as expression
use Rattle.cu_flatread.specs.declared.expressions.BranchPattern.{BranchPattern}
use Rattle.cu_flatread.specs.declared.expressions.BranchPattern.TheVariants as read
use Rattle.cu_flatread.specs.declared.expressions.Following.{Following}
use Rattle.cu_flatread.specs.declared.expressions.Following.TheVariants as follow
use Rattle.cu_flatread.specs.declared.expressions.Form.{Form}
use Rattle.cu_flatread.specs.declared.expressions.Form.TheVariants as form
use Rattle.cu_flatread.specs.declared.expressions.ListOf.{ListOf}
use Rattle.cu_flatread.specs.declared.expressions.ListOf.TheVariants as of
use Rattle.cu_flatread.specs.declared.expressions.Opening.{Opening}
use Rattle.cu_flatread.specs.declared.expressions.Task.{Task}
use Rattle.cu_flatread.specs.declared.expressions.Task.TheVariants as task
use Rattle.cu_flatread.specs.declared.cells.FlatEntity.{FlatEntity}
use Rattle.cu_flatread.specs.declared.mark.Mark.TheVariants as mark
use Rattle.cu_flatread.specs.declared.stop.Stop.{Stop}
use Rattle.cu_flatread.specs.declared.stop.Stop.TheVariants as stop

-- a cell, by the texts of its names
pub data Label : Type 0 where
  OfVar : ℕ → Label
  OfLiteral : Lit → Label
  OfComb : CombKind → Entity → Label
  OfLet : ℕ → Label
  OfFree : ℕ → Label
  OfOr : Label
  OfCase : Mode → Label
  OfMore : Label
  OfEnd : Label
  OfBranch : Label
  OfEndOfBranches : Label
  OfPattern : Entity → Label
  OfLPattern : Lit → Label
  OfBound : ℕ → Label
  OfEndOfVariables : Label

abbrev pub label : List (List ℕ) → ExpressionCell → Label
label names (expression.Var x) = OfVar x
label names (expression.Literal l) = OfLiteral l
label names (expression.Comb kind e) = OfComb kind (entity_of names e)
label names (expression.Let x) = OfLet x
label names (expression.Free x) = OfFree x
label names expression.Or = OfOr
label names (expression.Case mode) = OfCase mode
label names expression.More = OfMore
label names expression.End = OfEnd
label names expression.Branch = OfBranch
label names expression.EndOfBranches = OfEndOfBranches
label names (expression.Pattern e) = OfPattern (entity_of names e)
label names (expression.LPattern l) = OfLPattern l
label names (expression.Bound x) = OfBound x
label names expression.EndOfVariables = OfEndOfVariables

-- a table has the names of a cell
abbrev pub HasCell : List (List ℕ) → ExpressionCell → Type 0
HasCell names (expression.Comb kind e) = HasEntity names e
HasCell names (expression.Pattern e) = HasEntity names e
HasCell names _ = Unit {0}

-- the cells of the variables of a pattern
abbrev pub variable_labels : List ℕ → List Label
variable_labels [] = OfEndOfVariables ∷ []
variable_labels (x ∷ xs) = OfBound x ∷ variable_labels xs

abbrev pub pattern_labels : Pattern Entity → List Label
pattern_labels (m.Built e xs) = OfPattern e ∷ variable_labels xs
pattern_labels (m.Exactly l) = OfLPattern l ∷ []

abbrev mutual
  -- the cells of an expression
  pub labels : Expression Entity → List Label
  labels (m.Var x) = OfVar x ∷ []
  labels (m.Literal l) = OfLiteral l ∷ []
  labels (m.Comb kind e ts) = OfComb kind e ∷ list_labels ts
  labels (m.Let x a b) = OfLet x ∷ (labels a ++ labels b)
  labels (m.Free x a) = OfFree x ∷ labels a
  labels (m.Or a b) = OfOr ∷ (labels a ++ labels b)
  labels (m.Case mode a bs) = OfCase mode ∷ (labels a ++ branch_labels bs)

  -- the cells of several expressions
  pub list_labels : Expressions Entity → List Label
  list_labels m.NoExpression = OfEnd ∷ []
  list_labels (m.MoreExpressions t ts) = OfMore ∷ (labels t ++ list_labels ts)

  -- the cells of several branches
  pub branch_labels : Branches Entity → List Label
  branch_labels m.NoBranch = OfEndOfBranches ∷ []
  branch_labels (m.MoreBranches p t bs) =
      OfBranch ∷ (pattern_labels p ++ (labels t ++ branch_labels bs))

-- ---- what begins, and what is still to be read

-- the pattern that was read of a branch
abbrev pub pattern_tree : BranchPattern → Pattern FlatEntity
pattern_tree (read.Built e xs) = m.Built e xs.items
pattern_tree (read.Exactly l) = m.Exactly l

-- What is still to be read after a cell, the first of it last; what stands in it may be nested at
-- most so deep.
abbrev pub following_tasks : ℕ → Following → List Task
following_tasks inner follow.Nothing = []
following_tasks inner follow.Arguments = task.First of.Arguments inner ∷ []
following_tasks inner follow.One = task.Mark mark.Close ∷ task.Expression inner ∷ []
following_tasks inner (follow.Two between) =
    task.Mark mark.Close ∷ task.Expression inner ∷ task.Mark between ∷ task.Expression inner ∷ []
following_tasks inner follow.Branches =
    task.First of.Branches inner ∷ task.Mark mark.Branches ∷ task.Expression inner ∷ []
following_tasks inner follow.Element = task.Next of.Arguments inner ∷ task.Expression inner ∷ []
following_tasks inner follow.Branch =
    task.Next of.Branches inner ∷ task.Mark mark.Close ∷ task.Expression inner ∷ task.Pattern ∷ []

-- the cell of an element of a list or of its end, and what follows it
abbrev pub element_opening : ListOf → Bool → Opening
element_opening of.Arguments true =
    record { cell = expression.More; following = follow.Element }
element_opening of.Arguments false = record { cell = expression.End; following = follow.Nothing }
element_opening of.Branches true =
    record { cell = expression.Branch; following = follow.Branch }
element_opening of.Branches false =
    record { cell = expression.EndOfBranches; following = follow.Nothing }

-- the cell of an opening by the texts of its names, and what follows it
abbrev pub opened : List (List ℕ) → Opening → Label × Following
opened names opening = (label names opening.cell, opening.following)

-- what begins with a form, whose word was read
abbrev pub opening_of_form : Form → List ℕ → Read (Label × Following)
opening_of_form form.Var bytes = number_at bytes >>= λ x. Ok ((OfVar x.0, follow.Nothing), x.1)
opening_of_form form.Literal bytes =
    literal_at bytes >>= λ l. after_word (codes ")") l.1
    >>= λ rest. Ok ((OfLiteral l.0, follow.Nothing), rest)
opening_of_form form.Comb bytes =
    kind_at bytes >>= λ kind. entity_at kind.1 >>= λ e. after_word (codes " [") e.1
    >>= λ rest. Ok ((OfComb kind.0 e.0, follow.Arguments), rest)
opening_of_form form.Let bytes =
    number_at bytes >>= λ x. after_word (codes ",") x.1
    >>= λ rest. Ok ((OfLet x.0, follow.Two mark.Body), rest)
opening_of_form form.Free bytes =
    number_at bytes >>= λ x. after_word (codes "] (") x.1
    >>= λ rest. Ok ((OfFree x.0, follow.One), rest)
opening_of_form form.Or bytes = Ok ((OfOr, follow.Two mark.Between), bytes)
opening_of_form form.Case bytes =
    one_of mode_words bytes >>= λ mode. Ok ((OfCase mode.0, follow.Branches), mode.1)

-- the beginning of an expression that is nested at most so deep
unfoldable pub opening_at : ℕ → List ℕ → Read (Label × Following)
opening_at depth bytes =
    one_of (expression_words depth) bytes >>= λ found. opening_of_form found.0 found.1

-- the cells that tasks read, one after another
unfoldable pub tasks_at : List Task → List ℕ → Read (List Label)
tasks_at [] bytes = Ok ([], bytes)
tasks_at (task.Expression depth ∷ tasks) bytes =
    expression_at depth bytes >>= λ t. joined (labels t.0) (tasks_at tasks t.1)
tasks_at (task.Mark mark ∷ tasks) bytes =
    after_word (mark_text mark) bytes >>= λ rest. tasks_at tasks rest
tasks_at (task.Pattern ∷ tasks) bytes =
    branch_pattern_at bytes >>= λ p. joined (pattern_labels p.0) (tasks_at tasks p.1)
tasks_at (task.First of.Arguments depth ∷ tasks) bytes =
    list_after (expression_at depth) bytes
    >>= λ ts. joined (list_labels (all_expressions ts.0)) (tasks_at tasks ts.1)
tasks_at (task.Next of.Arguments depth ∷ tasks) bytes =
    more_elements (expression_at depth) (length bytes) bytes
    >>= λ ts. joined (list_labels (all_expressions ts.0)) (tasks_at tasks ts.1)
tasks_at (task.First of.Branches depth ∷ tasks) bytes =
    list_after (branch_at (expression_at depth)) bytes
    >>= λ bs. joined (branch_labels (all_branches bs.0)) (tasks_at tasks bs.1)
tasks_at (task.Next of.Branches depth ∷ tasks) bytes =
    more_elements (branch_at (expression_at depth)) (length bytes) bytes
    >>= λ bs. joined (branch_labels (all_branches bs.0)) (tasks_at tasks bs.1)

-- how much a task takes of the steps that are left
abbrev pub weight : Task → ℕ
weight (task.First list depth) = 5
weight _ = 1

abbrev pub weights : List Task → ℕ
weights [] = 0
weights (task ∷ tasks) = weight task + weights tasks

-- how many steps are left at most
abbrev pub steps_left : List Task → List ℕ → ℕ
steps_left tasks bytes = 8 * length bytes + weights tasks

-- the cells up to now, and those that tasks read
abbrev pub cells_at : List (List ℕ) → List ExpressionCell → List Task → List ℕ
    → Read (List Label)
cells_at names cells tasks bytes = joined (map (label names) cells) (tasks_at tasks bytes)

-- what is left after a task gives what was left with it
abbrev pub Goes : {X : Type 0} → Result X Stop → List (List ℕ) → List ExpressionCell → List Task
    → List ℕ → List ExpressionCell → List Task → List ℕ → Type 0
Goes (Ok x) names cells tasks bytes cells2 tasks2 rest =
    cells_at names cells2 (reverse tasks2) rest ≡ cells_at names cells tasks bytes
Goes (Err (stop.At left)) names cells tasks bytes cells2 tasks2 rest =
    tasks_at tasks bytes ≡ Err left
Goes (Err stop.NoMemory) names cells tasks bytes cells2 tasks2 rest = Unit {0}
