use Rattle.std.proofs.Common.{refl}
use Rattle.cu_calculus.specs.FlatProgram.{program_of}
use Rattle.cu_front.specs.Compiling.{root_in}
use Rattle.cu_front.specs.Inside.Stages.{RefusesBoth}
use Rattle.cu_front.specs.Inside.StageFaults.{Tells}
use Rattle.cu_front.proofs.RunLemmas.{err_same}
use Rattle.cu_front.proofs.WholeLemmas.{CanRunAlone, are_modules, both_compile, both_not_run, modules_not_run}
use Rattle.cu_front.proofs.run.run.Goals as goal

pub returns-in_err-runnable-clause-fault : goal.returns-in_err-runnable-clause-fault
returns-in_err-runnable-clause-fault c modules root text are =
    err_same (Tells c.runnable.new.names (RefusesBoth modules root text)) c.from_residual.result c.in_err-runnable.field-0.0 c.from_residual.ensures.1
    (modules_not_run c.args.names.now c.runnable.new.names modules root text c.args.programs c.args.programs.modules c.in_err-runnable.field-0.0
    refl are c.in_err-runnable.ensures.fault)

pub returns-clause-program : goal.returns-clause-program
returns-clause-program c modules root text are =
    let table = c.args.names.now in
    let old = c.runnable.new.names in
    let alone : CanRunAlone table old c.args.programs.modules = record {
      program = c.in_ok-runnable.field-0.program;
      interface = c.in_ok-runnable.field-0.interface;
      flat = program_of c.in_ok-runnable.field-0.flat;
      lifted = c.in_ok-runnable.ensures.lifted;
      can_run = c.in_ok-runnable.ensures.runs;
    } in
    both_compile c.run_whole.new.names modules root text c.run_whole.result
    (λ held walk. are_modules table old modules root text c.args.programs c.args.programs.modules held refl are alone walk)
    (c.run_whole.ensures.program table modules (root_in modules root) text c.in_ok-runnable.ensures.names are.whole)

pub returns-clause-fault : goal.returns-clause-fault
returns-clause-fault c modules root text are =
    let table = c.args.names.now in
    let old = c.runnable.new.names in
    let alone : CanRunAlone table old c.args.programs.modules = record {
      program = c.in_ok-runnable.field-0.program;
      interface = c.in_ok-runnable.field-0.interface;
      flat = program_of c.in_ok-runnable.field-0.flat;
      lifted = c.in_ok-runnable.ensures.lifted;
      can_run = c.in_ok-runnable.ensures.runs;
    } in
    both_not_run c.run_whole.new.names modules root text c.run_whole.result
    (λ held walk. are_modules table old modules root text c.args.programs c.args.programs.modules held refl are alone walk)
    (c.run_whole.ensures.fault table modules (root_in modules root) text c.in_ok-runnable.ensures.names are.whole)
