-- Reading types into a table.
use Rattle.std.specs.Prelude.{◌≡◌, ℕ, ◌<◌, ◌++◌, List, [], ◌∷◌, Option, None, Some, length, map, nat_eq, slice_get}
use Rattle.indexmap.specs.IndexMap.{get}
use Rattle.cu_kernel.specs.TypeExpr as type
use Rattle.cu_kernel.specs.TypeExpr.{TypeExpr}
use Rattle.cu_types.specs.Inside.Solving.{solved_at}
use Rattle.cu_types.specs.Table as shape
use Rattle.cu_types.specs.Table.{IsTable, Shape, at, shape_of, trees}
use Rattle.cu_types.specs.Types.{Substitution}
use Rattle.cu_types.specs.Unification.{Equation}
use Rattle.cu_types.specs.declared.pair.Pair.{Pair}
use Rattle.cu_types.specs.declared.reader.Reader.{Reader}

abbrev pub shapes : Reader → List Shape
shapes r = map shape_of r.nodes.items

-- a table in which each variable stands once, at the place that is known of it
pub record HasVariables (find : ℕ → Option ℕ) (ss : List Shape) : Type 0 where
  pub table : IsTable ss
  pub known : (x k : ℕ) → find x ≡ Some k → slice_get ss k ≡ Some (shape.Variable x)
  pub only : (k x : ℕ) → slice_get ss k ≡ Some (shape.Variable x) → find x ≡ Some k

abbrev pub IsReader : Reader → Type 0
IsReader r = HasVariables (get nat_eq r.variables) (shapes r)

-- a type was read: it stands at this place, and all that stood before stands as it did
pub record Reads (before after : List Shape) (t : TypeExpr) (place : ℕ) : Type 0 where
  pub more : List Shape
  pub extends : after ≡ before ++ more
  pub within : place < length after
  pub value : at (trees after) place ≡ t

-- these types were read, in order: they stand at these places
pub record AllRead (before after : List Shape) (ts : List TypeExpr) (places : List ℕ) : Type 0 where
  pub more : List Shape
  pub extends : after ≡ before ++ more
  pub within : (k a : ℕ) → slice_get places k ≡ Some a → a < length after
  pub values : map (at (trees after)) places ≡ ts

-- pairs of places stand for equations
abbrev pub Stand : List Shape → List Pair → List Equation → Type 0
Stand ss [] [] = Unit {0}
Stand ss [] (e ∷ es) = ⊥
Stand ss (p ∷ ps) [] = ⊥
Stand ss (p ∷ ps) (e ∷ es) =
    (p.left < length ss) × (p.right < length ss) × (at (trees ss) p.left ≡ e.left)
    × (at (trees ss) p.right ≡ e.right) × Stand ss ps es

-- what a variable becomes that stands at a place of a table, or nowhere
abbrev pub bound_at : List ℕ → List Shape → ℕ → Option ℕ → TypeExpr
bound_at found made x None = type.Variable x
bound_at found made x (Some k) = solved_at found made k

abbrev pub bound : (ℕ → Option ℕ) → List ℕ → List Shape → Substitution
bound find found made x = bound_at found made x (find x)
