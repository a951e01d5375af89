use Rattle.cu_calculus.specs.FlatProgram.{program_of}
use Rattle.cu_front.proofs.RunLemmas.{functional_told}
use Rattle.cu_front.proofs.runnable.runnable.Goals as goal

pub returns-in-Functional-clause-fault : goal.returns-in-Functional-clause-fault
returns-in-Functional-clause-fault c = (
  functional_told c.args.names.now c.lifted.new.names c.args.local c.in_ok-program.program
      (program_of c.in_ok-flat.flat) c.in_ok-typing.typing c.in-Functional.is
      c.in_ok-program.ensures.lifted c.in_ok-test_levels.ensures.levels
      c.in_ok-typing.ensures.types c.in_ok-flat.ensures.flat,
  tt,
)
