use Rattle.cu_modules.specs.Ordering.{modules_of}
use Rattle.cu_front.specs.Inside.Stages.{RefusesModules}
use Rattle.cu_front.specs.Inside.StageFaults.{Tells}
use Rattle.cu_front.proofs.AloneLemmas.{all_refused, are_translated}
use Rattle.cu_front.proofs.RunLemmas.{err_same}
use Rattle.cu_front.proofs.TableLemmas.{table_of}
use Rattle.cu_front.proofs.modules_alone.translated.Goals as goal

pub returns-in_err-scopes-clause-fault : goal.returns-in_err-scopes-clause-fault
returns-in_err-scopes-clause-fault c root =
    let names = c.args.names.now in
    let ms = modules_of names c.args.modules.now in
    err_same (Tells names (RefusesModules ms root)) c.from_residual.result c.in_err-scopes.field-0.0 c.from_residual.ensures.1
    (c.in_err-scopes.ensures.fault root)

pub returns-clause-program : goal.returns-clause-program
returns-clause-program c =
    let names = c.args.names.now in
    are_translated names (modules_of names c.args.modules.now) c.modules_program.result c.in_ok-scopes.ensures.right
    c.in_ok-scopes.ensures.types
    (table_of names c.args.modules.now c.in_ok-entities.entities c.requires.known c.in_ok-entities.ensures)
    c.modules_program.ensures.none c.modules_program.ensures.program

pub returns-clause-fault : goal.returns-clause-fault
returns-clause-fault c root =
    let names = c.args.names.now in
    all_refused names (modules_of names c.args.modules.now) root c.modules_program.result c.in_ok-scopes.ensures.right
    c.in_ok-scopes.ensures.types
    (table_of names c.args.modules.now c.in_ok-entities.entities c.requires.known c.in_ok-entities.ensures)
    c.modules_program.ensures.fault
