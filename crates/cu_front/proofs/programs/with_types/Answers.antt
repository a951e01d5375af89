use Rattle.cu_modules.specs.Ordering.{modules_of}
use Rattle.cu_front.specs.Inside.Stages.{RefusesModules}
use Rattle.cu_front.specs.Inside.StageFaults.{Tells}
use Rattle.cu_front.proofs.RunLemmas.{err_same}
use Rattle.cu_front.proofs.StageLemmas.{modules_wrong, types_wrong}
use Rattle.cu_front.proofs.programs.with_types.Goals as goal

pub returns-in_err-scopes-clause-fault : goal.returns-in_err-scopes-clause-fault
returns-in_err-scopes-clause-fault c root =
    let names = c.args.names.now in
    let ms = modules_of names c.args.modules.now in
    err_same (Tells names (RefusesModules ms root)) c.from_residual.result c.in_err-scopes.field-0.0 c.from_residual.ensures.1
    (modules_wrong names ms root c.in_err-scopes.field-0.0 c.in_err-scopes.ensures.fault)

pub returns-in_err-test_types-clause-fault : goal.returns-in_err-test_types-clause-fault
returns-in_err-test_types-clause-fault c root =
    let names = c.args.names.now in
    let ms = modules_of names c.args.modules.now in
    err_same (Tells names (RefusesModules ms root)) c.from_residual-in_err-test_types.result c.in_err-test_types.field-0.0
    c.from_residual-in_err-test_types.ensures.1
    (types_wrong names ms root c.in_err-test_types.field-0.0 c.in_ok-scopes.ensures.right c.in_err-test_types.ensures.fault)
