use Rattle.cu_declared.specs.TypeFaults.{IsWrong}
use Rattle.cu_modules.specs.Ordering.{modules_of}
use Rattle.cu_front.proofs.StageLemmas.{types_told}
use Rattle.cu_front.proofs.programs.test_types.Goals as goal

pub returns-in-Err-clause-fault : goal.returns-in-Err-clause-fault
returns-in-Err-clause-fault c =
    types_told c.args.names.now (IsWrong (modules_of c.args.names.now c.args.modules.now)) c.in-Err.fault c.of_types.result
    c.of_types.ensures c.in-Err.ensures.wrong c.in-Err.ensures.known
