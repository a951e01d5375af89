use Rattle.std.proofs.Common.{◌∙◌, ap, sym, List}
use Rattle.cu_calculus.specs.Value.{Value}
use Rattle.cu_prooftext.specs.Inside.Lines.{further_values}
use Rattle.cu_prooftext.specs.Inside.Loops.{with_front}
use Rattle.cu_prooftext.specs.Inside.Reading.{value_at}
use Rattle.cu_prooftext.proofs.GivesLaws.{fails_on, gives_err}
use Rattle.cu_prooftext.proofs.ListSteps.{value_ends, value_fails, value_goes, value_shorter}
use Rattle.cu_prooftext.proofs.lists.further_values.Goals as goal

pub returns-in_err-value : goal.returns-in_err-value
returns-in_err-value c =
    let k = c.loop-after in
    gives_err _ c.from_residual.result c.in_err-value.field-0.0 (with_front c.args.front.items (further_values c.args.bytes.now)) c.from_residual.ensures.1
    (fails_on c.in_err-value.field-0.0 (value_at c.in-Some.after.now) (with_front c.args.front.items (further_values c.args.bytes.now))
    (λ n e. sym k.invariant ∙ value_fails k.values.items k.rest.now c.in-Some.after.now n c.in-Some.ensures.some e) c.in_err-value.ensures)

pub loop-after-smaller : goal.loop-after-smaller
loop-after-smaller c =
    value_shorter c.loop-after.rest.now c.in-Some.after.now c.in_ok-value.more.now c.in_ok-value.value c.in-Some.ensures.some c.in_ok-value.ensures

pub loop-after-preserved : goal.loop-after-preserved
loop-after-preserved c =
    let k = c.loop-after in
    ap (λ (z : List Value). with_front z (further_values c.in_ok-value.more.now)) c.in_ok-push.ensures.items
    ∙ value_goes k.values.items k.rest.now c.in-Some.after.now c.in_ok-value.more.now c.in_ok-value.value c.in-Some.ensures.some c.in_ok-value.ensures
    ∙ k.invariant

pub returns : goal.returns
returns c = sym c.loop-after.invariant ∙ value_ends c.loop-after.values.items c.loop-after.rest.now c.in_default.ensures.none
