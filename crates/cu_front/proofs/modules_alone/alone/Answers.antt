use Rattle.cu_modules.specs.Ordering.{modules_of}
use Rattle.cu_front.specs.Inside.Stages.{RefusesModules}
use Rattle.cu_front.specs.Inside.StageFaults.{Tells}
use Rattle.cu_front.proofs.AloneLemmas.{alone_compiles, alone_not_run}
use Rattle.cu_front.proofs.RunLemmas.{err_same}
use Rattle.cu_front.proofs.modules_alone.alone.Goals as goal

pub returns-in_err-program-clause-fault : goal.returns-in_err-program-clause-fault
returns-in_err-program-clause-fault c root =
    let names = c.args.names.now in
    let ms = modules_of names c.args.modules.now in
    err_same (Tells names (RefusesModules ms root)) c.from_residual.result c.in_err-program.field-0.0 c.from_residual.ensures.1
    (c.in_err-program.ensures.fault root)

pub returns-clause-program : goal.returns-clause-program
returns-clause-program c root =
    let names = c.args.names.now in
    alone_compiles names c.runnable.new.names (modules_of names c.args.modules.now) root c.in_ok-program.program c.runnable.result
    c.in_ok-program.ensures.program c.runnable.ensures.lifted c.runnable.ensures.runs

pub returns-clause-fault : goal.returns-clause-fault
returns-clause-fault c root =
    let names = c.args.names.now in
    alone_not_run names c.runnable.new.names (modules_of names c.args.modules.now) root c.in_ok-program.program c.runnable.result
    c.in_ok-program.ensures.program c.runnable.ensures.fault
