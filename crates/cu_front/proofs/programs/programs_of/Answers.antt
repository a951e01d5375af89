use Rattle.cu_modules.specs.Ordering.{modules_of}
use Rattle.cu_front.specs.Inside.Stages.{RefusesModules}
use Rattle.cu_front.specs.Inside.StageFaults.{Tells}
use Rattle.cu_front.proofs.RunLemmas.{err_same}
use Rattle.cu_front.proofs.StageLemmas.{modules_refused}
use Rattle.cu_front.proofs.TableLemmas.{table_of}
use Rattle.cu_front.proofs.programs.programs_of.Goals as goal

pub returns-in_err-scopes-clause-fault : goal.returns-in_err-scopes-clause-fault
returns-in_err-scopes-clause-fault c root =
    let names = c.args.rooted.names.now in
    let ms = modules_of names c.args.rooted.modules.now in
    err_same (Tells names (RefusesModules ms root)) c.from_residual.result c.in_err-scopes.field-0.0 c.from_residual.ensures.1
    (c.in_err-scopes.ensures.fault root)

pub returns-in_err-alone-clause-fault : goal.returns-in_err-alone-clause-fault
returns-in_err-alone-clause-fault c root =
    let names = c.args.rooted.names.now in
    let ms = modules_of names c.args.rooted.modules.now in
    err_same (Tells names (RefusesModules ms root)) c.from_residual-in_err-alone.result c.in_err-alone.field-0.0 c.from_residual-in_err-alone.ensures.1
    (modules_refused names ms root c.in_err-alone.field-0.0 c.in_ok-scopes.ensures.right c.in_ok-scopes.ensures.types
    (table_of names c.args.rooted.modules.now c.in_ok-entities.entities c.requires.known c.in_ok-entities.ensures) c.in_err-alone.ensures.fault)

pub returns-in_err-whole-clause-fault : goal.returns-in_err-whole-clause-fault
returns-in_err-whole-clause-fault c root =
    let names = c.args.rooted.names.now in
    let ms = modules_of names c.args.rooted.modules.now in
    err_same (Tells names (RefusesModules ms root)) c.from_residual-in_err-whole.result c.in_err-whole.field-0.0 c.from_residual-in_err-whole.ensures.1
    (modules_refused names ms root c.in_err-whole.field-0.0 c.in_ok-scopes.ensures.right c.in_ok-scopes.ensures.types
    (table_of names c.args.rooted.modules.now c.in_ok-entities.entities c.requires.known c.in_ok-entities.ensures) c.in_err-whole.ensures.fault)

pub returns-clause-programs : goal.returns-clause-programs
returns-clause-programs c text found =
    let names = c.args.rooted.names.now in
    record {
      scoped = c.in_ok-scopes.ensures.right;
      types = c.in_ok-scopes.ensures.types;
      is_table = table_of names c.args.rooted.modules.now c.in_ok-entities.entities c.requires.known c.in_ok-entities.ensures;
      translated = c.in_ok-alone.ensures.none;
      alone = c.in_ok-alone.ensures.program;
      whole = c.in_ok-whole.ensures.whole text found;
    }
