use Rattle.std.proofs.Common.{rules, ◌≡◌}
use Rattle.cu_calculus.specs.FlatProgram.{program_of}
use Rattle.cu_cmd.specs.Trials.{trial_goal}
use Rattle.cu_theorem.specs.Listed.{listing_of}
use Rattle.cu_cmd.proofs.ReportLemmas.{refusal_ends_whole, totals_end, totals_end_whole, trial_compiles, trial_refusal_ends, trial_tells}
use Rattle.cu_words.specs.Words.{Trying, trial_of}
use Rattle.cu_cmd.proofs.trying.run_trial.Goals as goal

pub returns-in-Ok-clause-ends : goal.returns-in-Ok-clause-ends
returns-in-Ok-clause-ends g c =
    let is_goal : c.as_str.result.now ≡ trial_goal c.args.trial.depth = search rules in
    totals_end c.total.result (trial_of c.args.trial) c.limits.result _ c.in-Ok.compiled.program (program_of c.in-Ok.compiled.flat)
    c.in-Ok.ensures.goal.goal _ _ c.limits.ensures
    (trial_compiles c.in_ok-library.library c.as_str.result.now c.args.trial.depth _ _ _ c.in_ok-library.ensures is_goal c.in-Ok.ensures.program)
    c.in-Ok.ensures.goal.is
    (c.total.ensures.status c.in-Ok.ensures.goal.goal c.in-Ok.ensures.goal.is)
    (c.total.ensures.whole c.in-Ok.ensures.goal.goal c.in-Ok.ensures.goal.is)
    (c.total.ensures.prefix c.in-Ok.ensures.goal.goal c.in-Ok.ensures.goal.is)

pub returns-in-Ok-clause-whole : goal.returns-in-Ok-clause-whole
returns-in-Ok-clause-whole g c =
    totals_end_whole c.total.result (trial_of c.args.trial)
    (listing_of c.limits.result (program_of c.in-Ok.compiled.flat) c.in-Ok.ensures.goal.goal) _ _ _ _
    (c.total.ensures.status c.in-Ok.ensures.goal.goal c.in-Ok.ensures.goal.is) (c.total.ensures.whole c.in-Ok.ensures.goal.goal c.in-Ok.ensures.goal.is) c.total.ensures.cause

pub returns-in-Err-Refused-clause-ends : goal.returns-in-Err-Refused-clause-ends
returns-in-Err-Refused-clause-ends g c =
    let is_goal : c.as_str.result.now ≡ trial_goal c.args.trial.depth = search rules in
    trial_refusal_ends c.refuse.result (trial_of c.args.trial) _ c.in-Err-Refused.field-0 c.in-Err-Refused.refusal _ _
    c.in-Err-Refused.field-0-is
    (trial_tells c.in_ok-library.library c.as_str.result.now c.args.trial.depth _ _ c.in_ok-library.ensures is_goal c.in-Err-Refused.ensures.refused)
    c.refuse.ensures.status (rw c.in-Err-Refused.field-0-is at c.refuse.ensures.whole) (rw c.in-Err-Refused.field-0-is at c.refuse.ensures.prefix)

pub returns-in-Err-Refused-clause-whole : goal.returns-in-Err-Refused-clause-whole
returns-in-Err-Refused-clause-whole g c =
    refusal_ends_whole c.refuse.result (Trying (trial_of c.args.trial)) _ _ _ _ _ c.refuse.ensures.status c.refuse.ensures.whole c.refuse.ensures.cause
