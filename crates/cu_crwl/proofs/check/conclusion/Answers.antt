use Rattle.cu_crwl.proofs.CheckForms.{concluded}
use Rattle.cu_crwl.proofs.check.conclusion.Goals as goal

pub returns : goal.returns
returns c =
    concluded c.copy_statement.result c.steps-steps.result.now c.args.proof.now c.index-steps-steps.result c.steps-steps.ensures.steps c.steps-steps.ensures.begun
    c.index-steps-steps.is c.copy_statement.ensures
