use Rattle.std.proofs.Common.{subst}
use Rattle.cu_kernel.specs.Kernel.{program_of}
use Rattle.cu_lift.specs.SetCycles.{IsLevelFault}
use Rattle.cu_front.proofs.RunLemmas.{sets_told}
use Rattle.cu_front.proofs.runnable.of_levels.Goals as goal

pub returns-in-SetRecursion : goal.returns-in-SetRecursion
returns-in-SetRecursion c =
    let program = c.args.program.now in
    sets_told c.args.names.now program c.in-SetRecursion.cycle.items c.as_slice.result.now
    c.of_recursion.result c.as_slice.ensures.value
    (subst (IsLevelFault (program_of program)) c.in-SetRecursion.is c.requires)
    c.of_recursion.ensures
