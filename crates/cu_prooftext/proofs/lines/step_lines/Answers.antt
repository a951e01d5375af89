use Rattle.std.proofs.Common.{◌∙◌, ◌+◌, ◌-◌, ◌∷◌, [], List, ap, arith, map, sym}
use Rattle.std.proofs.lemmas.List.{map-append}
use Rattle.cu_calculus.specs.Proof.{Step}
use Rattle.cu_crwl.specs.Meaning.{step_of}
use Rattle.cu_prooftext.specs.Inside.Lines.{step_at, steps_at}
use Rattle.cu_prooftext.specs.Inside.Loops.{with_front}
use Rattle.cu_prooftext.proofs.GivesLaws.{fails_on, gives_err}
use Rattle.cu_prooftext.proofs.LineSteps.{step_fails, step_goes, steps_end, steps_start}
use Rattle.cu_prooftext.proofs.lines.step_lines.Goals as goal

pub returns-in_err-step : goal.returns-in_err-step
returns-in_err-step c =
    let k = c.loop-number in
    gives_err _ c.from_residual.result c.in_err-step.field-0.0 (steps_at 0 c.args.count c.args.bytes.now) c.from_residual.ensures.1
    (fails_on c.in_err-step.field-0.0 (step_at k.number k.rest.now) (steps_at 0 c.args.count c.args.bytes.now)
    (λ n e. sym k.invariant.0 ∙ step_fails (map step_of k.steps.items) k.number c.args.count k.rest.now n c.loop-number-test.true e) c.in_err-step.ensures)

pub loop-number-init : goal.loop-number-init
loop-number-init c = (steps_start c.new-steps.result.items c.args.count c.args.bytes.now c.new-steps.ensures.items, omega arith)

pub loop-number-preserved : goal.loop-number-preserved
loop-number-preserved c =
    let k = c.loop-number in (
      ap (λ (z : List Step). with_front z (steps_at (k.number + 1) (c.args.count - (k.number + 1)) c.in_ok-step.more.now))
          (ap (map step_of) c.in_ok-push.ensures.items ∙ map-append step_of k.steps.items (c.in_ok-step.step ∷ []))
          ∙ step_goes (map step_of k.steps.items) k.number c.args.count k.rest.now c.in_ok-step.more.now (step_of c.in_ok-step.step) c.loop-number-test.true c.in_ok-step.ensures
          ∙ k.invariant.0,
      omega arith,
    )

pub returns : goal.returns
returns c =
    let k = c.loop-number in
    sym k.invariant.0 ∙ steps_end (map step_of k.steps.items) k.number c.args.count k.rest.now (omega arith)
