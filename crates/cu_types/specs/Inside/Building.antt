-- The types of constructors and of what is built in, as they are put together.
use Rattle.std.specs.Prelude.{ℕ, ◌+◌, List, [], ◌∷◌, ◌++◌, map}
use Rattle.cu_kernel.specs.Kernel.{Constructor, DataType}
use Rattle.cu_kernel.specs.TypeExpr as type
use Rattle.cu_kernel.specs.TypeExpr.{TypeExpr}
use Rattle.cu_types.specs.BuiltInTypes.{arrows, data_type, variables_from}
use Rattle.cu_types.specs.Synonyms.{expanded_by}
use Rattle.cu_types.specs.declared.builtin.Signature.{Signature}
use Rattle.cu_types.specs.declared.builtin.Signature.TheVariants as signature
use Rattle.cu_types.specs.declared.builtin.Simple.{Simple}
use Rattle.cu_types.specs.declared.builtin.Simple.TheVariants as simple

abbrev pub simple_type : Simple → TypeExpr
simple_type simple.Any = type.Variable 0
simple_type (simple.Data place) = data_type place []

abbrev pub signature_type : Signature → TypeExpr
signature_type (signature.Value t) = simple_type t
signature_type (signature.Unary t r) = arrows (simple_type t ∷ []) (simple_type r)
signature_type (signature.Binary t r) = arrows (simple_type t ∷ simple_type t ∷ []) (simple_type r)

-- the type of a constructor of a data type at a place, with so many parameters
abbrev pub made_type : (ℕ → TypeExpr) → ℕ → ℕ → Constructor → TypeExpr
made_type body place arity c =
    arrows (map (expanded_by body) c.fields) (data_type place (variables_from 0 arity))

-- the types of the constructors of the data types from a place on
abbrev pub made_types : (ℕ → TypeExpr) → ℕ → List DataType → List TypeExpr
made_types body place [] = []
made_types body place (t ∷ ts) = map (made_type body place t.arity) t.constructors
    ++ made_types body (place + 1) ts
