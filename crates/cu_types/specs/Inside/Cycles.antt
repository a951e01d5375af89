-- A class that uses itself: a type of it that stands inside a type that is made equal to it.
use Rattle.std.specs.Prelude.{◌≡◌, ℕ, suc, ◌+◌, ◌<◌, ◌≤◌, ◌++◌, List, cond, length, map, nat_eq}
use Rattle.cu_kernel.specs.TypeExpr as type
use Rattle.cu_kernel.specs.TypeExpr.{TypeExpr, TypeExprs}
use Rattle.cu_types.specs.Inside.Closing.{AreEqual}
use Rattle.cu_types.specs.Inside.Ordering.{AreLinked, IsUnder, Leaves, class_of}
use Rattle.cu_types.specs.Table as shape
use Rattle.cu_types.specs.Table.{IsTable, Shape, at, trees}
use Rattle.cu_types.specs.Types.{Substitution, apply}
use Rattle.cu_types.specs.Unification.{Equation}
use Rattle.cu_types.specs.declared.order.Task.{Task}

-- how many variables, heads and names stand in a type
abbrev mutual
  pub size : TypeExpr → ℕ
  size (type.Variable x) = 1
  size (type.Arrow a b) = suc (size a + size b)
  size (type.Named name ts) = suc (sizes ts)

  pub sizes : TypeExprs → ℕ
  sizes type.NoType = 0
  sizes (type.MoreTypes t ts) = size t + sizes ts

-- an argument, or this place instead where the argument is of the class `used`
abbrev pub put_in : List ℕ → ℕ → ℕ → ℕ → ℕ
put_in classes used place a = cond (nat_eq (class_of classes a) used) place a

abbrev pub wrapped : List ℕ → ℕ → ℕ → Shape → Shape
wrapped classes used place (shape.Variable x) = shape.Variable x
wrapped classes used place (shape.Applied h ps) =
    shape.Applied h (map (put_in classes used place) ps)

-- types of one class are made equal by the equations
abbrev pub AreSound : List Equation → List Shape → List ℕ → Type 0
AreSound equations ss classes = (k : ℕ) → k < length ss
    → AreEqual equations (trees ss) k (class_of classes k)

-- at this place a type was built that is made equal to that of the class `used`, with the first
-- type inside it
pub record IsUnfolding (ss : List Shape) (classes : List ℕ) (first : ℕ) (now : List Shape)
    (tasks : List Task) (used place : ℕ) : Type 0 where
  pub more : List Shape
  pub extends : now ≡ ss ++ more
  pub table : IsTable now
  pub within : place < length now
  pub used_within : used < length ss
  pub leaves : Leaves (class_of classes first) tasks
  pub linked : AreLinked ss classes tasks
  pub under : IsUnder ss classes used tasks
  pub equal : (equations : List Equation) → AreSound equations ss classes
      → AreEqual equations (trees now) place used
  pub larger : (σ : Substitution) → size (apply σ (at (trees now) first))
      ≤ size (apply σ (at (trees now) place))

-- at this place a type was built that is made equal to the first one, and the first one stands
-- inside it
pub record Unfolds (ss : List Shape) (classes : List ℕ) (first : ℕ) (now : List Shape)
    (place : ℕ) : Type 0 where
  pub more : List Shape
  pub extends : now ≡ ss ++ more
  pub table : IsTable now
  pub within : place < length now
  pub equal : (equations : List Equation) → AreSound equations ss classes
      → AreEqual equations (trees now) first place
  pub larger : (σ : Substitution) → size (apply σ (at (trees now) first))
      < size (apply σ (at (trees now) place))
