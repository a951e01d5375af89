use Rattle.cu_modules.specs.Ordering.{modules_of}
use Rattle.cu_front.specs.Inside.Stages.{RefusesModules}
use Rattle.cu_front.specs.Inside.StageFaults.{Tells}
use Rattle.cu_front.proofs.LoadedLemmas.{whole_refused}
use Rattle.cu_front.proofs.RunLemmas.{err_same}
use Rattle.cu_front.proofs.TableLemmas.{table_of}
use Rattle.cu_front.proofs.asking.whole_in.Goals as goal

pub returns-in_err-scopes-clause-fault : goal.returns-in_err-scopes-clause-fault
returns-in_err-scopes-clause-fault c root =
    let names = c.args.rooted.names.now in
    let ms = modules_of names c.args.rooted.modules.now in
    err_same (Tells names (RefusesModules ms root)) c.from_residual.result c.in_err-scopes.field-0.0 c.from_residual.ensures.1
    (c.in_err-scopes.ensures.fault root)

pub returns-clause-whole : goal.returns-clause-whole
returns-clause-whole c text found = c.read_outcome.ensures.whole text found

pub returns-clause-fault : goal.returns-clause-fault
returns-clause-fault c root =
    let names = c.args.rooted.names.now in
    let ms = modules_of names c.args.rooted.modules.now in
    whole_refused names ms root c.read_outcome.result c.in_ok-scopes.ensures.right c.in_ok-scopes.ensures.types
    (table_of names c.args.rooted.modules.now c.in_ok-entities.entities c.requires.known c.in_ok-entities.ensures) c.read_outcome.ensures.fault
