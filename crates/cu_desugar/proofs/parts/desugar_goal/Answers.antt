use Rattle.cu_syntax.specs.Answer.{goal_meaning}
use Rattle.cu_desugar.specs.Modules.{goal_owner, named}
use Rattle.cu_desugar.specs.Translated.{goal_translated}
use Rattle.cu_desugar.proofs.RefusalLemmas.{failed}
use Rattle.cu_desugar.proofs.parts.desugar_goal.Goals as goal

pub returns-clause-program : goal.returns-clause-program
returns-clause-program c =
    let m = c.args.modules in
    let names = m.names.now in
    c.answer.ensures.program (goal_owner m) (goal_translated names (named m) c.args.root (goal_meaning names c.args.goal.now)) c.in_ok-outcome.ensures

pub returns-clause-fault : goal.returns-clause-fault
returns-clause-fault c =
    let m = c.args.modules in
    let names = m.names.now in
    c.answer.ensures.fault (goal_owner m) (goal_translated names (named m) c.args.root (goal_meaning names c.args.goal.now)) c.in_ok-outcome.ensures

pub returns-in_err-outcome-clause-fault : goal.returns-in_err-outcome-clause-fault
returns-in_err-outcome-clause-fault c =
    let m = c.args.modules in
    let names = m.names.now in
    failed (goal_owner m) (goal_translated names (named m) c.args.root (goal_meaning names c.args.goal.now)) c.from_residual.result c.from_residual.ensures.1
