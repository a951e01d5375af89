-- The building of an expression by a list of tasks: what is left to do, and what that comes to.
use Rattle.std.specs.Prelude.{◌≡◌, ℕ, zero, suc, ◌+◌, ◌-◌, ◌<◌, Bool, true, false, List, [], ◌∷◌, ◌++◌, Option, None, Some, length, map, take, drop, slice_get}
use Rattle.std.specs.List.{list_all}
use Rattle.cu_calculus.specs.declared.ExprId.{ExprId}
use Rattle.cu_calculus.specs.Code as code
use Rattle.cu_calculus.specs.Code.{Branch, Code, Expr, expr_of}
use Rattle.cu_machine.specs.declared.Kind.{Kind}
use Rattle.cu_machine.specs.declared.Kind.TheVariants as kind
use Rattle.cu_machine.specs.Build.{Built, Scope, build, kind_of_whole, place_in, place_of, pushed, written}
use Rattle.cu_machine.specs.Graph.{Graph, Node, alone, put, renaming, stuck}
use Rattle.cu_step.specs.declared.build.Target.{Target}
use Rattle.cu_step.specs.declared.build.Target.TheVariants as target
use Rattle.cu_step.specs.declared.build.Task.{Task}
use Rattle.cu_step.specs.declared.build.Task.TheVariants as task
use Rattle.cu_step.specs.declared.build.Workspace.{Workspace}

-- ---- what was done

-- the state of a building
pub record State : Type 0 where
  pub graph : Graph
  -- the node that is written over
  pub root : ℕ
  -- the indices of the values that are arguments of nodes to come
  pub ids : List ℕ
  pub scope : Scope

-- the state of a building of the code
abbrev pub state_of : Graph → Workspace → State
state_of graph workspace =
    record {
      graph = graph;
      root = workspace.root;
      ids = workspace.ids.items;
      scope = workspace.scope.items;
    }

-- the state after a node was made
abbrev pub with_node : Target → State → Node → State
with_node target.Argument s node =
    record s { graph = s.graph ++ node ∷ []; ids = s.ids ++ length s.graph ∷ [] }
with_node target.Root s node = record s { graph = put s.graph s.root node }

-- the state after a variable's value was used, or a stuck node was made where there is none
abbrev pub with_value : Target → State → Option ℕ → State
with_value target.Argument s (Some id) = record s { ids = s.ids ++ id ∷ [] }
with_value target.Root s (Some id) = record s { graph = put s.graph s.root (renaming id) }
with_value t s None = with_node t s stuck

-- the state after a free variable was made and bound
abbrev pub with_free : State → ℕ → State
with_free s x =
    record s
    { graph = s.graph ++ alone kind.Free ∷ []; scope = s.scope ++ (x, length s.graph) ∷ [] }

-- the state after a variable was bound to the last argument
abbrev pub bound_last : ℕ → State → Option ℕ → State
bound_last x s (Some id) =
    record s { ids = take (length s.ids - 1) s.ids; scope = s.scope ++ (x, id) ∷ [] }
bound_last x s None = s

-- the state after a node was made over the last n arguments
abbrev pub finished : State → Kind → ℕ → Target → State
finished s k n t = with_node t (record s { ids = take (length s.ids - n) s.ids })
    (record { kind = k; args = drop (length s.ids - n) s.ids })

-- the state after what is done at once where an expression's turn comes
abbrev pub begun : Target → State → Option Expr → State
begun t s None = with_node t s stuck
begun t s (Some (code.Variable x)) = with_value t s (place_in s.scope x)
begun t s (Some (code.Literal l)) = with_node t s (alone (kind.Lit l))
begun t s (Some (code.Free x body)) = with_free s x
begun t s (Some (code.Whole h arguments)) = s
begun t s (Some (code.Part h arguments)) = s
begun t s (Some (code.Apply function argument)) = s
begun t s (Some (code.Let x bound body)) = s
begun t s (Some (code.Or left right)) = s
begun t s (Some (code.Case mode kept scrutinee branches)) = s

-- the state after a task was begun
abbrev pub performed : Code → State → Task → State
performed program s (task.Build e t) = begun t s (expr_of program e)
performed program s (task.Take x) = with_value target.Argument s (place_in s.scope x)
performed program s (task.Finish k n t) = finished s k n t
performed program s (task.Bind x) = bound_last x s (slice_get s.ids (length s.ids - 1))
performed program s task.Unbind = record s { scope = take (length s.scope - 1) s.scope }

-- ---- what is left to do

-- the task to build an expression as an argument
abbrev pub argument : ExprId → Task
argument e = task.Build e target.Argument

-- the tasks to build parts, and then a node over n of them
abbrev pub node_tasks : List Task → Kind → ℕ → Target → List Task
node_tasks parts k n t = parts ++ task.Finish k n t ∷ []

-- the tasks that building an expression leaves, the first one first
abbrev pub tasks_of : Code → ExprId → Target → Option Expr → List Task
tasks_of program e t None = []
tasks_of program e t (Some (code.Variable x)) = []
tasks_of program e t (Some (code.Literal l)) = []
tasks_of program e t (Some (code.Whole h arguments)) =
    node_tasks (map argument arguments) (kind_of_whole program h) (length arguments) t
tasks_of program e t (Some (code.Part h arguments)) =
    node_tasks (map argument arguments) (kind.Part h) (length arguments) t
tasks_of program e t (Some (code.Apply function operand)) =
    node_tasks (map argument (function ∷ operand ∷ [])) kind.Apply 2 t
tasks_of program e t (Some (code.Or left right)) =
    node_tasks (map argument (left ∷ right ∷ [])) kind.Or 2 t
tasks_of program e t (Some (code.Let x bound body)) =
    argument bound ∷ task.Bind x ∷ task.Build body t ∷ task.Unbind ∷ []
tasks_of program e t (Some (code.Free x body)) = task.Build body t ∷ task.Unbind ∷ []
tasks_of program e t (Some (code.Case mode kept scrutinee branches)) =
    node_tasks (argument scrutinee ∷ map task.Take kept) (kind.Case mode e.0) (length kept + 1) t

-- the tasks that a task leaves
abbrev pub left_by : Code → Task → List Task
left_by program (task.Build e t) = tasks_of program e t (expr_of program e)
left_by program _ = []

-- ---- what tasks come to

-- the state after an expression was built in one go
abbrev pub settled : Target → State → Built → State
settled target.Argument s built =
    record s
    { graph = s.graph ++ pushed built; ids = s.ids ++ place_of (length s.graph) built ∷ [] }
settled target.Root s built = record s { graph = written s.graph s.root built }

-- the state after a task and all that it leaves was done
unfoldable pub done : Code → State → Task → State
done program s (task.Build e t) = settled t s (build program s.scope (length s.graph) e)
done program s other = performed program s other

-- the state after several tasks were done
unfoldable pub all_done : Code → State → List Task → State
all_done program s [] = s
all_done program s (t ∷ ts) = all_done program (done program s t) ts

-- ---- how deep expressions nest, and how long it takes

-- the parts of an expression that are built with it
abbrev pub parts_of : Option Expr → List ExprId
parts_of None = []
parts_of (Some (code.Variable x)) = []
parts_of (Some (code.Literal l)) = []
parts_of (Some (code.Whole h arguments)) = arguments
parts_of (Some (code.Part h arguments)) = arguments
parts_of (Some (code.Apply function argument)) = function ∷ argument ∷ []
parts_of (Some (code.Or left right)) = left ∷ right ∷ []
parts_of (Some (code.Let x bound body)) = bound ∷ body ∷ []
parts_of (Some (code.Free x body)) = body ∷ []
parts_of (Some (code.Case mode kept scrutinee branches)) = scrutinee ∷ []

-- whether an expression nests less deep than this
unfoldable pub nests_within : ℕ → Code → ExprId → Bool
nests_within zero program e = false
nests_within (suc depth) program e =
    list_all (nests_within depth program) (parts_of (expr_of program e))

-- whether an expression nests at most as deep as the code has expressions
abbrev pub nests : Code → ExprId → Bool
nests program e = nests_within (length program.expressions) program e

-- whether the body of a branch, if there is one, nests at most as deep as the code has expressions
abbrev pub branch_nests : Code → Option Branch → Bool
branch_nests program (Some branch) = nests program branch.body
branch_nests program None = true

-- whether the bodies of branches nest at most as deep as the code has expressions
abbrev pub branches_nest : Code → List Branch → Bool
branches_nest program branches = list_all (λ branch. nests program branch.body) branches

-- whether the expression of a task nests at most as deep as the code has expressions
abbrev pub task_nests : Code → Task → Bool
task_nests program (task.Build e t) = nests program e
task_nests program _ = true

-- a bound on the tasks that building several expressions takes, those that it leaves counted
abbrev pub all_weigh : (ExprId → ℕ) → List ExprId → ℕ
all_weigh weight [] = 0
all_weigh weight (e ∷ es) = weight e + all_weigh weight es

-- a bound on the tasks that an expression takes beside those of its parts
abbrev pub own_weight : Option Expr → ℕ
own_weight (Some (code.Case mode kept scrutinee branches)) = length kept + 4
own_weight _ = 4

-- a bound on the tasks that building an expression takes, those that it leaves counted
unfoldable pub weight_within : ℕ → Code → ExprId → ℕ
weight_within zero program e = 1
weight_within (suc depth) program e =
    own_weight (expr_of program e) + all_weigh (weight_within depth program)
    (parts_of (expr_of program e))

-- a bound on the tasks that a task takes: itself, and all that it leaves
abbrev pub task_weight : Code → Task → ℕ
task_weight program (task.Build e t) = weight_within (length program.expressions) program e
task_weight program _ = 1

-- a bound on the tasks that several tasks take: themselves, and all that they leave
unfoldable pub weight : Code → List Task → ℕ
weight program [] = 0
weight program (t ∷ ts) = task_weight program t + weight program ts

-- ---- what holds at each moment

-- What holds at each moment of a building: doing the tasks that are left, from this state on, gives
-- the state that the first task gives from the start.
pub record Works (program : Code) (start : State) (first : Task) (s : State)
    (left : List Task) : Type 0 where
  pub there : s.root < length s.graph
  pub nest : list_all (task_nests program) left ≡ true
  pub comes : all_done program s left ≡ done program start first
