-- The equations, solutions and clashes that values of the code stand for.
use Rattle.std.specs.Prelude.{◌≡◌, ℕ, ◌<◌, List, Option, None, Some, length, map, nat_eq, slice_get}
use Rattle.std.specs.Option.{option_and_then}
use Rattle.indexmap.specs.IndexMap.{get}
use Rattle.cu_kernel.specs.TypeExpr as type
use Rattle.cu_kernel.specs.TypeExpr.{TypeExpr}
use Rattle.cu_kernel.specs.TypesOf.{type_of}
use Rattle.cu_types.specs.Table.{IsTable, Shape, at, shape_of, trees}
use Rattle.cu_types.specs.Types.{Substitution}
use Rattle.cu_types.specs.Unification.{Equation, IsClash}
use Rattle.cu_types.specs.declared.equation.Equation as code
use Rattle.cu_types.specs.declared.unification.Clash.{Clash}
use Rattle.cu_types.specs.declared.unification.Subst.{Subst}
use Rattle.cu_types.specs.declared.unification.UnifyFault.{UnifyFault}
use Rattle.cu_types.specs.declared.unification.UnifyFault.TheVariants as fault

abbrev pub equation_of : code.Equation → Equation
equation_of e = record { left = type_of e.left; right = type_of e.right }

-- the table of a solution's types
abbrev pub types_of_subst : Subst → List Shape
types_of_subst s = map shape_of s.types.items

-- the place in the table of the type that a variable has, if it has one
abbrev pub place_in : Subst → ℕ → Option ℕ
place_in s x = option_and_then (slice_get s.places.items) (get nat_eq s.variables x)

-- the type at a place, or the variable itself where there is no place
abbrev pub type_at : List Shape → ℕ → Option ℕ → TypeExpr
type_at ss x None = type.Variable x
type_at ss x (Some p) = at (trees ss) p

-- the substitution that a solution stands for
abbrev pub subst_of : Subst → Substitution
subst_of s x = type_at (types_of_subst s) x (place_in s x)

-- the places of variables' types are places of the table
abbrev pub HasPlaces : Subst → Type 0
HasPlaces s = (x p : ℕ) → place_in s x ≡ Some p → p < length (types_of_subst s)

-- two types of a table that are a clash of the equations
pub record Clashes (equations : List Equation) (c : Clash) : Type 0 where
  pub table : IsTable (map shape_of c.types.items)
  pub left_within : c.left < length c.types.items
  pub right_within : c.right < length c.types.items
  pub clash : IsClash equations (at (trees (map shape_of c.types.items)) c.left)
      (at (trees (map shape_of c.types.items)) c.right)

-- the fault is why the equations have no solution; an allocation failure says nothing
abbrev pub IsUnifyFault : List Equation → UnifyFault → Type 0
IsUnifyFault equations (fault.Clash c) = Clashes equations c
IsUnifyFault equations fault.NoMemory = Unit {0}
