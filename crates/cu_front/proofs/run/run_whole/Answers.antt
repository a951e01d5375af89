use Rattle.cu_calculus.specs.FlatProgram.{program_of}
use Rattle.cu_front.specs.Compiling.{GoalCompiles, GoalRefused}
use Rattle.cu_front.specs.declared.runnable.Compiled.{Compiled}
use Rattle.cu_front.specs.Inside.StageFaults.{Tells}
use Rattle.cu_front.proofs.RunLemmas.{err_same, memory_told, ok_same}
use Rattle.cu_front.proofs.WholeLemmas.{goal_compiles, goal_not_run, goal_not_translated}
use Rattle.cu_front.proofs.run.run_whole.Goals as goal

pub returns-in_err-found-in-Program-clause-fault : goal.returns-in_err-found-in-Program-clause-fault
returns-in_err-found-in-Program-clause-fault c table modules k text grown are =
    let last = c.runnable.new.names in
    err_same (Tells last (GoalRefused modules k text)) c.from_residual.result c.in_err-found-in-Program.field-0.0 c.from_residual.ensures.1
    (goal_not_run table c.args.names.now last modules k text c.args.whole c.in-Program.program c.in_err-found-in-Program.field-0.0 c.in-Program.is grown are
    c.in_err-found-in-Program.ensures.fault)

pub returns-in_ok-found-in-Program-clause-program : goal.returns-in_ok-found-in-Program-clause-program
returns-in_ok-found-in-Program-clause-program c table modules k text grown are =
    let last = c.runnable.new.names in
    let found = c.in_ok-found-in-Program.found in
    ok_same (λ (same : Compiled). GoalCompiles modules k text last same.program (program_of same.flat)) c.with_goal.result found c.with_goal.ensures.same
    (goal_compiles table c.args.names.now last modules k text c.args.whole c.in-Program.program found.program found.interface (program_of found.flat)
    c.in-Program.is grown are c.in_ok-found-in-Program.ensures.lifted c.in_ok-found-in-Program.ensures.runs)

pub returns-in_ok-found-in-Program-clause-fault : goal.returns-in_ok-found-in-Program-clause-fault
returns-in_ok-found-in-Program-clause-fault c table modules k text grown are =
    memory_told c.runnable.new.names (GoalRefused modules k text) c.with_goal.result c.with_goal.ensures.fault

pub returns-in-Refused-clause-fault : goal.returns-in-Refused-clause-fault
returns-in-Refused-clause-fault c table modules k text grown are =
    goal_not_translated table c.args.names.now modules k text c.args.whole c.in-Refused.refusal c.in-Refused.is grown are
