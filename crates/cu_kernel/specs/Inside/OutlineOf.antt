-- The outlines of types that the code's outlines stand for.
use Rattle.cu_kernel.specs.FirstTypes as first
use Rattle.cu_kernel.specs.declared.first_types.Outline.TheVariants.{List, Literal, Tuple}
use Rattle.cu_kernel.specs.declared.first_types.Outline.{Outline}

-- the outline that one of the code stands for
abbrev pub outline_meaning : Outline → first.Outline
outline_meaning List = first.list_outline
outline_meaning (Tuple n) = first.tuple_outline n
outline_meaning Literal = first.literal_outline
