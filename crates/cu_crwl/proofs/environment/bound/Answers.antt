use Rattle.std.proofs.Common.{None, Some, drop, ◌+◌, refl}
use Rattle.cu_calculus.specs.Match.{Bindings}
use Rattle.cu_crwl.specs.Environments.{lookup}
use Rattle.cu_crwl.proofs.Loops.{ended, skip, stop}
use Rattle.cu_crwl.proofs.EnvironmentLaws.{lookup_here, lookup_there}
use Rattle.cu_crwl.proofs.environment.bound.Goals as goal

pub returns-then-binding-variable : goal.returns-then-binding-variable
returns-then-binding-variable c =
    let b = c.binding-item.result in
    stop (λ (bs : Bindings). lookup bs c.args.variable) c.args.bindings.now c.loop-binding.binding-index b c.loop-binding-test.true c.binding-item.is
    (Some b.1) (lookup c.args.bindings.now c.args.variable)
    (lookup_here b (drop (c.loop-binding.binding-index + 1) c.args.bindings.now) c.args.variable c.if-binding-variable.true) c.loop-binding.invariant

pub loop-binding-preserved : goal.loop-binding-preserved
loop-binding-preserved c =
    let b = c.binding-item.result in
    skip (λ (bs : Bindings). lookup bs c.args.variable) c.args.bindings.now c.loop-binding.binding-index b c.loop-binding-test.true c.binding-item.is
    (lookup c.args.bindings.now c.args.variable)
    (lookup_there b (drop (c.loop-binding.binding-index + 1) c.args.bindings.now) c.args.variable c.if-binding-variable.false) c.loop-binding.invariant

pub returns : goal.returns
returns c =
    ended (λ (bs : Bindings). lookup bs c.args.variable) c.args.bindings.now c.loop-binding.binding-index c.loop-binding-test.false None
    (lookup c.args.bindings.now c.args.variable) refl c.loop-binding.invariant
