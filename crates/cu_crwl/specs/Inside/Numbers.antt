-- What built-in operations answer on one literal and on two.
use Rattle.std.specs.Prelude.{List, [], ◌∷◌, Option, None, Some, pos}
use Rattle.cu_calculus.specs.declared.Lit.{Lit}
use Rattle.cu_calculus.specs.declared.Lit.TheVariants.{Char, Int}
use Rattle.cu_calculus.specs.declared.builtin.Primitive.{Primitive}
use Rattle.cu_calculus.specs.declared.builtin.Primitive.TheVariants as prim
use Rattle.cu_calculus.specs.Builtin.{character, on_integers}
use Rattle.cu_calculus.specs.Program.{Program}
use Rattle.cu_calculus.specs.Value as value
use Rattle.cu_calculus.specs.Value.{Value}

-- the two values, where there are two
abbrev pub two_values : List Value → Option (Value × Value)
two_values (u ∷ v ∷ []) = Some (u, v)
two_values _ = None

-- what an operation on one literal answers
abbrev pub on_one : Primitive → Lit → Option Value
on_one prim.Ord (Char c) = Some (value.Literal (Int (pos c)))
on_one prim.Chr (Int n) = character n
on_one _ _ = None

-- what an operation on two literals answers
abbrev pub on_two : Program → Primitive → Lit → Lit → Option Value
on_two program operation (Int m) (Int n) = on_integers program operation m n
on_two program operation _ _ = None
