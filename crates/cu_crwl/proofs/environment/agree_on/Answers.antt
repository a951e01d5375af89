use Rattle.std.proofs.Common.{Bool, true, false, ◌&&◌, drop, ◌+◌, refl, ap, sym, ◌∙◌}
use Rattle.cu_calculus.specs.Match.{Bindings}
use Rattle.cu_crwl.specs.Environments.{agrees_on}
use Rattle.cu_crwl.proofs.Loops.{ended, skip, stop}
use Rattle.cu_crwl.proofs.environment.agree_on.Goals as goal

pub returns-then-not-agree_at : goal.returns-then-not-agree_at
returns-then-not-agree_at c =
    let all = λ (bs : Bindings). agrees_on bs c.args.bindings.now c.args.new.now c.args.old.now in
    stop all c.args.variables.now c.loop-binding.binding-index c.binding-item.result c.loop-binding-test.true c.binding-item.is false
    (all c.args.variables.now)
    (ap (λ (b : Bool). b && all (drop (c.loop-binding.binding-index + 1) c.args.variables.now)) (sym c.agree_at.ensures ∙ c.if-not-agree_at.true))
    c.loop-binding.invariant

pub loop-binding-preserved : goal.loop-binding-preserved
loop-binding-preserved c =
    let all = λ (bs : Bindings). agrees_on bs c.args.bindings.now c.args.new.now c.args.old.now in
    skip all c.args.variables.now c.loop-binding.binding-index c.binding-item.result c.loop-binding-test.true c.binding-item.is
    (all c.args.variables.now)
    (ap (λ (b : Bool). b && all (drop (c.loop-binding.binding-index + 1) c.args.variables.now)) (sym c.agree_at.ensures ∙ c.if-not-agree_at.false))
    c.loop-binding.invariant

pub returns : goal.returns
returns c =
    let all = λ (bs : Bindings). agrees_on bs c.args.bindings.now c.args.new.now c.args.old.now in
    ended all c.args.variables.now c.loop-binding.binding-index c.loop-binding-test.false true (all c.args.variables.now) refl c.loop-binding.invariant
