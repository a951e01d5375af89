use Rattle.std.proofs.Common.{◌∙◌, ap, sym, ℕ, List, Some}
use Rattle.cu_calculus.specs.Value.{Value}
use Rattle.cu_prooftext.specs.Inside.Lines.{binding_at, further_bindings}
use Rattle.cu_prooftext.specs.Inside.Loops.{with_front}
use Rattle.cu_prooftext.proofs.GivesLaws.{fails_on, gives_err}
use Rattle.cu_prooftext.proofs.ListSteps.{binding_ends, binding_fails, binding_goes, binding_shorter}
use Rattle.cu_prooftext.proofs.lists.further_bindings.Goals as goal

pub returns-in_err-binding : goal.returns-in_err-binding
returns-in_err-binding c =
    let k = c.loop-after in
    gives_err _ c.from_residual.result c.in_err-binding.field-0.0 (with_front c.args.front.items (further_bindings c.args.found c.args.bytes.now)) c.from_residual.ensures.1
    (fails_on c.in_err-binding.field-0.0 (binding_at (Some k.last) c.in-Some.after.now) (with_front c.args.front.items (further_bindings c.args.found c.args.bytes.now))
    (λ n e. sym k.invariant ∙ binding_fails k.env.items k.last k.rest.now c.in-Some.after.now n c.in-Some.ensures.some.0 c.in-Some.ensures.some.1 e) c.in_err-binding.ensures)

pub loop-after-smaller : goal.loop-after-smaller
loop-after-smaller c =
    binding_shorter c.loop-after.last c.loop-after.rest.now c.in-Some.after.now c.in_ok-binding.more.now c.in_ok-binding.binding c.in-Some.ensures.some.0 c.in-Some.ensures.some.1
    c.in_ok-binding.ensures

pub loop-after-preserved : goal.loop-after-preserved
loop-after-preserved c =
    let k = c.loop-after in
    ap (λ (z : List (ℕ × Value)). with_front z (further_bindings c.in_ok-binding.binding.0 c.in_ok-binding.more.now)) c.in_ok-push.ensures.items
    ∙ binding_goes k.env.items k.last k.rest.now c.in-Some.after.now c.in_ok-binding.more.now c.in_ok-binding.binding c.in-Some.ensures.some.0 c.in-Some.ensures.some.1 c.in_ok-binding.ensures
    ∙ k.invariant

pub returns : goal.returns
returns c = sym c.loop-after.invariant ∙ binding_ends c.loop-after.env.items c.loop-after.last c.loop-after.rest.now c.in_default.ensures.none
