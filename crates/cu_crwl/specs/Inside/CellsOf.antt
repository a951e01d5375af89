-- Whether the cells of a value are those of a program's values.
use Rattle.std.specs.Prelude.{Bool, true, ◌&&◌}
use Rattle.cu_calculus.specs.declared.Head.TheVariants as head
use Rattle.cu_calculus.specs.Literal.{is_literal}
use Rattle.cu_calculus.specs.Program.{Program, arity_in}
use Rattle.cu_calculus.specs.Shape.{is_allowed, takes, takes_more}
use Rattle.cu_values.specs.declared.cell.Cell.{Cell}
use Rattle.cu_values.specs.declared.cell.Cell.TheVariants as cell

-- whether a cell of a value is the program's, by its head and its number of arguments
abbrev pub cell_is_of : Program → Cell → Bool
cell_is_of program cell.Bottom = true
cell_is_of program (cell.LVar x) = true
cell_is_of program (cell.Lit l) = is_literal l
cell_is_of program (cell.Con c n) = takes (arity_in program (head.Con c)) n
cell_is_of program (cell.Part h n) = is_allowed program h && takes_more (arity_in program h) n
