-- The operations that are built in, in the order in which the Prelude has them, with their types.
use Rattle.std.specs.Prelude.{ℕ, List, [], ◌∷◌, codes}
use Rattle.cu_calculus.specs.declared.builtin.Primitive.{Primitive}
use Rattle.cu_calculus.specs.declared.builtin.Primitive.TheVariants as prim
use Rattle.cu_kernel.specs.TypeExpr.{Arrow, Named, NoType, TypeExpr, Variable}
use Rattle.cu_translation.specs.Around.{Names}

pub record External : Type 0 where
  pub name : List ℕ
  pub operation : Primitive

abbrev pub external : List ℕ → Primitive → External
external name operation = record { name = name; operation = operation }

abbrev pub externals : List External
externals =
    external (codes "+") prim.Add ∷
    external (codes "-") prim.Sub ∷
    external (codes "*") prim.Mul ∷
    external (codes "div") prim.Div ∷
    external (codes "mod") prim.Mod ∷
    external (codes "<") prim.Less ∷
    external (codes "<=") prim.AtMost ∷
    external (codes ">") prim.Greater ∷
    external (codes ">=") prim.AtLeast ∷
    external (codes "==") prim.Equal ∷
    external (codes "=:=") prim.Unify ∷
    external (codes "&") prim.And ∷
    external (codes "ord") prim.Ord ∷
    external (codes "chr") prim.Chr ∷
    external (codes "failed") prim.Failed ∷
    []

-- a type of the Prelude without arguments
abbrev pub type_called : Names → List ℕ → TypeExpr
type_called names text = Named (names.prelude_type text) NoType

-- the type of the operations on two integers with a result of this type
abbrev pub on_integers : Names → List ℕ → TypeExpr
on_integers names to =
    Arrow (type_called names (codes "Int"))
    (Arrow (type_called names (codes "Int")) (type_called names to))

-- the type of the comparisons of two values of any one type
abbrev pub on_any : Names → TypeExpr
on_any names = Arrow (Variable 0) (Arrow (Variable 0) (type_called names (codes "Bool")))

abbrev pub from_to : Names → List ℕ → List ℕ → TypeExpr
from_to names from to = Arrow (type_called names from) (type_called names to)

abbrev pub external_type : Names → Primitive → TypeExpr
external_type names prim.Add = on_integers names (codes "Int")
external_type names prim.Sub = on_integers names (codes "Int")
external_type names prim.Mul = on_integers names (codes "Int")
external_type names prim.Div = on_integers names (codes "Int")
external_type names prim.Mod = on_integers names (codes "Int")
external_type names prim.Less = on_integers names (codes "Bool")
external_type names prim.AtMost = on_integers names (codes "Bool")
external_type names prim.Greater = on_integers names (codes "Bool")
external_type names prim.AtLeast = on_integers names (codes "Bool")
external_type names prim.Equal = on_any names
external_type names prim.Unify = on_any names
external_type names prim.And =
    Arrow (type_called names (codes "Bool")) (from_to names (codes "Bool") (codes "Bool"))
external_type names prim.Ord = from_to names (codes "Char") (codes "Int")
external_type names prim.Chr = from_to names (codes "Int") (codes "Char")
external_type names prim.Failed = Variable 0
