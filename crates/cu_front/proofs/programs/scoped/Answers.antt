use Rattle.cu_modules.specs.Means.{IsWrong}
use Rattle.cu_modules.specs.Ordering.{modules_of}
use Rattle.cu_front.proofs.StageLemmas.{scope_told}
use Rattle.cu_front.proofs.programs.scoped.Goals as goal

pub returns-in-Err-clause-fault : goal.returns-in-Err-clause-fault
returns-in-Err-clause-fault c =
    scope_told c.args.names.now (IsWrong (modules_of c.args.names.now c.args.modules.now)) c.in-Err.fault c.of_scope.result
    c.of_scope.ensures c.in-Err.ensures.wrong c.in-Err.ensures.known
