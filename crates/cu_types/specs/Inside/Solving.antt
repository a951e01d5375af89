-- What solving equations between the types of a table comes to.
use Rattle.std.specs.Prelude.{◌≡◌, ℕ, ◌<◌, List, Some, length, map, slice_get, slice_index}
use Rattle.cu_kernel.specs.TypeExpr.{TypeExpr}
use Rattle.cu_types.specs.Inside.Closing.{Each, IsWithin}
use Rattle.cu_types.specs.Inside.Cycles.{Unfolds}
use Rattle.cu_types.specs.Inside.Ordering.{AreFixed, IsPlaced, class_of, place_of, state_of}
use Rattle.cu_types.specs.Table as shape
use Rattle.cu_types.specs.Table.{IsTable, Shape, at, shape_of, tree_over, trees}
use Rattle.cu_types.specs.Types.{Substitution, apply}
use Rattle.cu_types.specs.Unification.{Equation, IsClash, Solves}
use Rattle.cu_types.specs.declared.node.TypeHead.{TypeHead}
use Rattle.cu_types.specs.declared.order.State.{State}
use Rattle.cu_types.specs.declared.pair.Pair.{Pair}
use Rattle.cu_types.specs.declared.solve.Solved.{Solved}
use Rattle.cu_types.specs.declared.solve.Solved.TheVariants as solved

-- the type that the type at place k becomes
abbrev pub solved_at : List ℕ → List Shape → ℕ → TypeExpr
solved_at found made k = at (trees made) (slice_index found k)

-- all classes are placed, and each place has the place of its class
pub record IsArranged (ss : List Shape) (classes found : List ℕ) (made : List Shape) : Type 0 where
  pub states : List State
  pub sized : length found ≡ length ss
  pub fixed : AreFixed ss classes states made
  pub placed : (k : ℕ) → k < length ss → IsPlaced (state_of states (class_of classes k))
  pub stands : (k : ℕ) → k < length ss → slice_index found k
      ≡ place_of (state_of states (class_of classes k))

abbrev pub ArrangesOr : List Shape → List ℕ → Solved → Type 0
ArrangesOr ss classes (solved.Solution found nodes) =
    IsArranged ss classes found.items (map shape_of nodes.items)
ArrangesOr ss classes (solved.Clash nodes p) =
    (p.left < length ss) × Unfolds ss classes p.left (map shape_of nodes.items) p.right

-- A solution was found, which tells what each type becomes: both places of a pair become the same,
-- a head has what its arguments become, and each solution makes the same of a type and of what it
-- becomes.
pub record IsSolution (equations : List Equation) (ss : List Shape) (given : List Pair)
    (found : List ℕ) (made : List Shape) : Type 0 where
  pub sized : length found ≡ length ss
  pub table : IsTable made
  pub within : (k : ℕ) → k < length ss → slice_index found k < length made
  pub joins : Each (λ p. solved_at found made p.left ≡ solved_at found made p.right) given
  pub over : (k : ℕ) (h : TypeHead) (ps : List ℕ) → slice_get ss k ≡ Some (shape.Applied h ps)
      → solved_at found made k ≡ tree_over (solved_at found made) (shape.Applied h ps)
  pub general : (τ : Substitution) → Solves τ equations → (k : ℕ) → k < length ss
      → apply τ (solved_at found made k) ≡ apply τ (at (trees ss) k)

-- two types of a table, at the places of a pair, are a clash of the equations
pub record IsCollision (equations : List Equation) (now : List Shape) (p : Pair) : Type 0 where
  pub table : IsTable now
  pub within : IsWithin (length now) p
  pub clash : IsClash equations (at (trees now) p.left) (at (trees now) p.right)

abbrev pub SolvesOr : List Equation → List Shape → List Pair → Solved → Type 0
SolvesOr equations ss given (solved.Solution found nodes) =
    IsSolution equations ss given found.items (map shape_of nodes.items)
SolvesOr equations ss given (solved.Clash nodes p) =
    IsCollision equations (map shape_of nodes.items) p
