-- The first cell of a value, and its arguments.
use Rattle.std.specs.Prelude.{Option, None, Some}
use Rattle.cu_calculus.specs.Value as value
use Rattle.cu_calculus.specs.Value.{Value, Values, count}
use Rattle.cu_values.specs.declared.cell.Cell.{Cell}
use Rattle.cu_values.specs.declared.cell.Cell.TheVariants as cell

-- the first cell of a value, with the number of its arguments
abbrev pub head_of : Value → Cell
head_of value.Bottom = cell.Bottom
head_of (value.Variable x) = cell.LVar x
head_of (value.Literal l) = cell.Lit l
head_of (value.Constructed c vs) = cell.Con c (count vs)
head_of (value.Partial h vs) = cell.Part h (count vs)

-- the arguments of a constructor or a partial application; other values have none
abbrev pub arguments_of : Value → Values
arguments_of value.Bottom = value.NoValue
arguments_of (value.Variable x) = value.NoValue
arguments_of (value.Literal l) = value.NoValue
arguments_of (value.Constructed c vs) = vs
arguments_of (value.Partial h vs) = vs

-- the first of several values and those after it, where there is one
abbrev pub split : Values → Option (Value × Values)
split value.NoValue = None
split (value.MoreValues v vs) = Some (v, vs)
