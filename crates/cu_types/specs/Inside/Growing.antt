-- Types that are added to the table of a solution.
use Rattle.std.specs.Prelude.{◌≡◌, ℕ, ◌<◌, ◌++◌, List, length}
use Rattle.cu_kernel.specs.TypeExpr.{TypeExpr}
use Rattle.cu_types.specs.Meaning.{HasPlaces, subst_of, types_of_subst}
use Rattle.cu_types.specs.Table.{IsTable, Shape, at, trees}
use Rattle.cu_types.specs.declared.unification.Subst.{Subst}

-- a type stands at this place now, and each variable has the type that it had
pub record Grows (before after : Subst) (t : TypeExpr) (place : ℕ) : Type 0 where
  pub table : IsTable (types_of_subst after)
  pub places : HasPlaces after
  pub more : List Shape
  pub extends : types_of_subst after ≡ types_of_subst before ++ more
  pub same : (x : ℕ) → subst_of after x ≡ subst_of before x
  pub within : place < length (types_of_subst after)
  pub value : at (trees (types_of_subst after)) place ≡ t
