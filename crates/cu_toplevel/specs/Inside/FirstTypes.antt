-- The type of lists.
use Rattle.std.specs.Prelude.{[], ◌∷◌, codes}
use Rattle.cu_kernel.specs.Kernel as kernel
use Rattle.cu_kernel.specs.TypeExpr as expr
use Rattle.cu_translation.specs.ModuleTypes.{Reading, constructor, data_type, list_of}

abbrev pub list_type : Reading → kernel.DataType
list_type r =
    data_type r (codes "[]") 1
    (constructor r (codes "[]") [] ∷
    constructor r (codes ":") (expr.Variable 0 ∷ list_of r.names (expr.Variable 0) ∷ []) ∷ [])
