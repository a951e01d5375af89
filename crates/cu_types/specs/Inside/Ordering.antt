-- The classes of a table in an order in which each stands after the classes of its arguments: a
-- depth-first walk.
use Rattle.std.specs.Prelude.{◌≡◌, ℕ, ◌+◌, ◌<◌, ◌≤◌, ◌⊎◌, Bool, true, false, List, [], ◌∷◌, Option, Some, MatchOption, length, map, reverse, slice_get, slice_index, slice_index_or}
use Rattle.cu_kernel.specs.TypeExpr.{TypeExpr}
use Rattle.cu_types.specs.Inside.Closing.{owed}
use Rattle.cu_types.specs.Table as shape
use Rattle.cu_types.specs.Table.{IsTable, Shape, at, places, tree_over, trees}
use Rattle.cu_types.specs.Types.{Substitution, apply}
use Rattle.cu_types.specs.declared.order.State.{State}
use Rattle.cu_types.specs.declared.order.State.TheVariants as state
use Rattle.cu_types.specs.declared.order.Task.{Task}
use Rattle.cu_types.specs.declared.order.Task.TheVariants as task

-- the state of a class in the walk
abbrev pub state_of : List State → ℕ → State
state_of states c = slice_index_or states c state.Unseen

abbrev pub is_unseen : State → Bool
is_unseen state.Unseen = true
is_unseen state.Open = false
is_unseen (state.Placed p) = false

-- where a class was placed
abbrev pub place_of : State → ℕ
place_of state.Unseen = 0
place_of state.Open = 0
place_of (state.Placed p) = p

abbrev pub IsPlaced : State → Type 0
IsPlaced state.Unseen = ⊥
IsPlaced state.Open = ⊥
IsPlaced (state.Placed p) = Unit {0}

abbrev pub class_of : List ℕ → ℕ → ℕ
class_of classes k = slice_index classes k

-- the shape of a class's type in the new table: its arguments are at the places of their classes
-- there
abbrev pub placed_shape : List State → List ℕ → Shape → Shape
placed_shape states classes (shape.Variable x) = shape.Variable x
placed_shape states classes (shape.Applied h ps) =
    shape.Applied h (map (λ a. place_of (state_of states (class_of classes a))) ps)

-- the class `user` has an argument of the class `used`
pub record Uses (ss : List Shape) (classes : List ℕ) (user used : ℕ) : Type 0 where
  pub shape : Shape
  pub place : ℕ
  pub argument : ℕ
  pub has : slice_get ss user ≡ Some shape
  pub stands : slice_get (places shape) place ≡ Some argument
  pub is : class_of classes argument ≡ used

-- the classes of all arguments of a class have this property
abbrev pub AllArguments : List Shape → List ℕ → ℕ → (ℕ → Type 0) → Type 0
AllArguments ss classes r P = (s : Shape) (k a : ℕ) → slice_get ss r ≡ Some s
    → slice_get (places s) k ≡ Some a → P (class_of classes a)

-- Once the tasks are done in their order, P holds of all classes, which says that they are placed,
-- each after its arguments. To enter a place is to place its class, and to leave a class is to
-- place it too.
abbrev pub Promises : List Shape → List ℕ → (ℕ → Type 0) → List Task → Type 0
Promises ss classes P [] = (k : ℕ) → k < length ss → P (class_of classes k)
Promises ss classes P (task.Enter i ∷ tasks) =
    Promises ss classes (λ c. P c ⊎ (c ≡ class_of classes i)) tasks
Promises ss classes P (task.Leave r ∷ tasks) =
    AllArguments ss classes r P × Promises ss classes (λ c. P c ⊎ (c ≡ r)) tasks

-- one of the tasks is to leave this class
abbrev pub Leaves : ℕ → List Task → Type 0
Leaves c [] = ⊥
Leaves c (task.Enter i ∷ tasks) = Leaves c tasks
Leaves c (task.Leave r ∷ tasks) = (r ≡ c) ⊎ Leaves c tasks

-- the class that is left next, if one is, uses this one
abbrev pub IsUnder : List Shape → List ℕ → ℕ → List Task → Type 0
IsUnder ss classes c [] = Unit {0}
IsUnder ss classes c (task.Enter i ∷ tasks) = IsUnder ss classes c tasks
IsUnder ss classes c (task.Leave r ∷ tasks) = Uses ss classes r c

-- each class that a task enters or leaves is used by the class that is left next after it, if one
-- is
abbrev pub AreLinked : List Shape → List ℕ → List Task → Type 0
AreLinked ss classes [] = Unit {0}
AreLinked ss classes (task.Enter i ∷ tasks) =
    (i < length ss) × IsUnder ss classes (class_of classes i) tasks × AreLinked ss classes tasks
AreLinked ss classes (task.Leave r ∷ tasks) =
    (r < length ss) × IsUnder ss classes r tasks × AreLinked ss classes tasks

-- the classes that are to be left are open, and each is left once
abbrev pub AreOpen : List State → List Task → Type 0
AreOpen states [] = Unit {0}
AreOpen states (task.Enter i ∷ tasks) = AreOpen states tasks
AreOpen states (task.Leave r ∷ tasks) = (state_of states r ≡ state.Open) × (Leaves r tasks → ⊥)
    × AreOpen states tasks

-- the type that a class got where it was placed
abbrev pub value_of : List Shape → List State → ℕ → TypeExpr
value_of solved states c = at (trees solved) (place_of (state_of states c))

-- a substitution makes the type at each place the same as that of the representative of its class
abbrev pub Respects : List Shape → List ℕ → Substitution → Type 0
Respects ss classes τ = (k : ℕ) → k < length ss → apply τ (at (trees ss) k)
    ≡ apply τ (at (trees ss) (class_of classes k))

-- A class was placed: its type is that of its shape over the types of its arguments' classes, and
-- each substitution that respects the classes makes the same of the types of the class and of that.
pub record IsFixed (ss : List Shape) (classes : List ℕ) (states : List State) (solved : List Shape)
    (c p : ℕ) (s : Shape) : Type 0 where
  pub within : p < length solved
  pub arguments : (k a : ℕ) → slice_get (places s) k ≡ Some a
      → IsPlaced (state_of states (class_of classes a))
  pub value : at (trees solved) p ≡ tree_over (λ a. value_of solved states (class_of classes a)) s
  pub general : (τ : Substitution) → Respects ss classes τ
      → apply τ (at (trees solved) p) ≡ apply τ (at (trees ss) c)

pub record AreFixed (ss : List Shape) (classes : List ℕ) (states : List State)
    (solved : List Shape) : Type 0 where
  pub sized : length states ≡ length ss
  pub table : IsTable solved
  pub fixed : (c p : ℕ) (s : Shape) → slice_get ss c ≡ Some s → state_of states c ≡ state.Placed p
      → IsFixed ss classes states solved c p s

-- the walk has these tasks left, the next one first
pub record IsWalk (ss : List Shape) (classes : List ℕ) (states : List State) (solved : List Shape)
    (tasks : List Task) : Type 0 where
  pub placed : AreFixed ss classes states solved
  pub promises : Promises ss classes (λ c. IsPlaced (state_of states c)) tasks
  pub linked : AreLinked ss classes tasks
  pub opened : AreOpen states tasks
  pub opens : (c : ℕ) → state_of states c ≡ state.Open → Leaves c tasks

-- the representatives are places of the table
pub record AreWithin (ss : List Shape) (classes : List ℕ) : Type 0 where
  pub sized : length classes ≡ length ss
  pub within : (k : ℕ) → k < length ss → class_of classes k < length ss

abbrev pub left_over : List Shape → List State → List Task → ℕ
left_over ss states tasks = length tasks + owed (λ k. is_unseen (state_of states k)) ss

-- a place whose class uses itself, through the classes that are to be left
pub record IsCyclic (ss : List Shape) (classes : List ℕ) (tasks : List Task) (i : ℕ) : Type 0 where
  pub within : i < length ss
  pub leaves : Leaves (class_of classes i) tasks
  pub under : IsUnder ss classes (class_of classes i) tasks
  pub linked : AreLinked ss classes tasks

-- a task leaves these tasks, or finds a place whose class uses itself; tasks are kept with the next
-- one last
pub record Steps (ss : List Shape) (classes : List ℕ) (states : List State) (tasks : List Task)
    (then : List State)
    (solved : List Shape) (after : List Task) (found : Option ℕ) : Type 0 where
  pub nearer : left_over ss then after ≤ left_over ss states tasks
  pub walk : MatchOption found (IsWalk ss classes
      then solved (reverse after)) (IsCyclic ss classes (reverse after))
