-- The program of the calculus that has the functions and constructors of a table of heads.
use Rattle.std.specs.Prelude.{map}
use Rattle.cu_calculus.specs.Program as calculus
use Rattle.cu_kernel.specs.Kernel.{plain_function}
use Rattle.cu_kernel.specs.KernelOf.{function_meaning}
use Rattle.cu_kernel.specs.declared.heads.Heads.{Heads}
use Rattle.cu_kernel.specs.declared.heads.Shape.{Shape}

-- the constructor that a shape of the code stands for
abbrev pub shape_meaning : Shape → calculus.Constructor
shape_meaning shape = record { of_type = shape.of_type; arity = shape.arity }

-- the program of a table of heads
unfoldable pub heads_program : Heads → calculus.Program
heads_program heads = record {
  functions = map plain_function (map function_meaning heads.functions.now);
  constructors = map shape_meaning heads.constructors.items;
  special = heads.special.now;
}
