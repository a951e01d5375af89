use Rattle.std.proofs.Common.{◌+◌, drop}
use Rattle.cu_calculus.specs.Match.{Bindings, bind_all, empty}
use Rattle.cu_crwl.proofs.Loops.{skip}
use Rattle.cu_verdict.proofs.ValueLaws.{bound_there}
use Rattle.cu_verdict.proofs.values.value_of.Goals as goal

pub loop-binding-preserved : goal.loop-binding-preserved
loop-binding-preserved c =
    let b = c.binding-item.result in
    skip (λ (bs : Bindings). bind_all empty bs c.args.variable) c.args.env.now c.loop-binding.binding-index b c.loop-binding-test.true c.binding-item.is
    (bind_all empty c.args.env.now c.args.variable)
    (bound_there b (drop (c.loop-binding.binding-index + 1) c.args.env.now) c.args.variable c.if-binding-variable.false) c.loop-binding.invariant
