-- What lowering needs of a program.
use Rattle.cu_calculus.specs.Program.{Program}
use Rattle.cu_calculus.specs.declared.builtin.Primitive.TheVariants as prim
use Rattle.cu_deftree.specs.Lowering.{IsOperation}
use Rattle.cu_deftree.specs.declared.trees.Lowerer.{Lowerer}
use Rattle.cu_kernel.specs.Heads.{heads_program}

abbrev pub program_in : Lowerer → Program
program_in lowerer = heads_program lowerer.heads.now

-- the operations of a lowerer are the program's
pub record IsReady (lowerer : Lowerer) : Type 0 where
  pub failed : IsOperation (heads_program lowerer.heads.now) prim.Failed lowerer.failed
  pub equal : IsOperation (heads_program lowerer.heads.now) prim.Equal lowerer.equal
