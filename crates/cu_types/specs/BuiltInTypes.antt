-- The types of what is built in and of constructors. All their type variables are generalised.
use Rattle.std.specs.Prelude.{ℕ, zero, suc, ◌+◌, List, [], ◌∷◌, Option, None, Some, map, slice_get}
use Rattle.cu_calculus.specs.declared.ConId.{ConId}
use Rattle.cu_calculus.specs.declared.Lit.{Lit}
use Rattle.cu_calculus.specs.declared.Lit.TheVariants as lit
use Rattle.cu_calculus.specs.declared.builtin.Primitive.{Primitive}
use Rattle.cu_calculus.specs.declared.builtin.Primitive.TheVariants as prim
use Rattle.cu_kernel.specs.Kernel.{DataType, Kernel, Placed, constructor_at}
use Rattle.cu_kernel.specs.TypeExpr as type
use Rattle.cu_kernel.specs.TypeExpr.{TypeExpr, TypeExprs}
use Rattle.cu_kernel.specs.TypesOf.{type_list}
use Rattle.cu_kernel.specs.declared.type_term.TypeName.TheVariants as name
use Rattle.cu_types.specs.Synonyms.{expanded}

-- the data type at a place among the program's types, with arguments
abbrev pub data_type : ℕ → List TypeExpr → TypeExpr
data_type place ts = type.Named (name.Data (record { 0 = place })) (type_list ts)

-- the types Int and Char, which come last of the types that every program begins with
abbrev pub int : TypeExpr
int = data_type 16 []

abbrev pub char : TypeExpr
char = data_type 17 []

-- the type of functions of parameters of these types, one after another, with this result
abbrev pub arrows : List TypeExpr → TypeExpr → TypeExpr
arrows [] result = result
arrows (t ∷ ts) result = type.Arrow t (arrows ts result)

-- so many type variables, from number x on
abbrev pub variables_from : ℕ → ℕ → List TypeExpr
variables_from x zero = []
variables_from x (suc count) = type.Variable x ∷ variables_from (x + 1) count

abbrev pub literal_type : Lit → TypeExpr
literal_type (lit.Int n) = int
literal_type (lit.Char c) = char

-- how many parameters a data type has
abbrev parameters_of : Option DataType → ℕ
parameters_of None = 0
parameters_of (Some t) = t.arity

abbrev constructor_type_of : Kernel → Option Placed → TypeExpr
constructor_type_of kernel None = type.Variable 0
constructor_type_of kernel (Some c) =
    arrows (map (expanded kernel) c.constructor.fields)
    (data_type c.of_type (variables_from 0 (parameters_of (slice_get kernel.types c.of_type))))

-- the type of a constructor, as a function of its fields
abbrev pub constructor_type : Kernel → ConId → TypeExpr
constructor_type kernel c = constructor_type_of kernel (constructor_at kernel.types c)

-- the data type of a constructor, with arguments
abbrev type_with : Option Placed → List TypeExpr → TypeExpr
type_with None ts = type.Variable 0
type_with (Some c) ts = data_type c.of_type ts

-- The type Bool, which is that of the constructor `True`.
abbrev pub bool : Kernel → TypeExpr
bool kernel = type_with (constructor_at kernel.types kernel.special.truth) []

-- the type of all values of a type, by the constructor of the values of set functions, if the
-- program has it
abbrev values_by : Kernel → Option ConId → TypeExpr → TypeExpr
values_by kernel None t = type.Variable 0
values_by kernel (Some c) t = type_with (constructor_at kernel.types c) (t ∷ [])

-- the type of all values of a type, which set functions give
abbrev pub values : Kernel → TypeExpr → TypeExpr
values kernel t = values_by kernel kernel.special.values t

-- the type of arithmetic on two integers
abbrev arithmetic : TypeExpr
arithmetic = arrows (int ∷ int ∷ []) int

-- the type of comparisons of two values of a type
abbrev comparison : Kernel → TypeExpr → TypeExpr
comparison kernel t = arrows (t ∷ t ∷ []) (bool kernel)

-- the type of a built-in operation
abbrev pub external_type : Kernel → Primitive → TypeExpr
external_type kernel prim.Add = arithmetic
external_type kernel prim.Sub = arithmetic
external_type kernel prim.Mul = arithmetic
external_type kernel prim.Div = arithmetic
external_type kernel prim.Mod = arithmetic
external_type kernel prim.Less = comparison kernel int
external_type kernel prim.AtMost = comparison kernel int
external_type kernel prim.Greater = comparison kernel int
external_type kernel prim.AtLeast = comparison kernel int
external_type kernel prim.Equal = comparison kernel (type.Variable 0)
external_type kernel prim.Unify = comparison kernel (type.Variable 0)
external_type kernel prim.And = comparison kernel (bool kernel)
external_type kernel prim.Ord = arrows (char ∷ []) int
external_type kernel prim.Chr = arrows (int ∷ []) char
external_type kernel prim.Failed = type.Variable 0
