use Rattle.cu_kernel.specs.Heads.{heads_program}
use Rattle.cu_kernel.specs.Kernel.{program_of}
use Rattle.cu_crwl.proofs.CheckForms.{all_checked}
use Rattle.cu_crwl.proofs.check.checks.Goals as goal

pub returns : goal.returns
returns c =
    all_checked (heads_program c.in_ok-heads.heads) (program_of c.args.program.now) c.deref.result.now c.deref-2.result.now c.args.claims.now.rows.items
    c.steps.result.now c.steps-2.result.now c.args.proof.now c.claims_are_of.result c.in_ok-steps_are_of.field-0 c.steps_follow.result c.in_ok-heads.ensures
    c.deref.ensures.value c.deref-2.ensures.value c.steps.ensures.steps c.steps-2.ensures.steps c.steps.ensures.begun c.claims_are_of.ensures
    c.if-not-claims_are_of.false c.in_ok-steps_are_of.ensures c.if-not-branch.false c.steps_follow.ensures
