use Rattle.std.proofs.Common.{ℕ, Bool, false, get_or, slice_index_or, refl}
use Rattle.std.proofs.lemmas.Option.{slice_get-get_or}
use Rattle.std.specs.List.{list_any}
use Rattle.cu_types.proofs.FunctionalLemmas.{any_more, any_none, any_now}
use Rattle.cu_types.proofs.functional.some_hold.Goals as goal

pub loop-argument-init : goal.loop-argument-init
loop-argument-init c = refl

pub bounds-holds-argument : goal.bounds-holds-argument
bounds-holds-argument c =
    c.requires c.loop-argument.argument-index (get_or c.args.arguments.now c.loop-argument.argument-index 0)
    (slice_get-get_or c.args.arguments.now c.loop-argument.argument-index 0 c.loop-argument-test.true)

pub returns : goal.returns
returns c =
    any_none (λ a. slice_index_or c.args.holds.now a false) c.args.arguments.now c.loop-argument.argument-index c.loop-argument-test.false
    c.loop-argument.invariant

pub returns-then-holds-argument : goal.returns-then-holds-argument
returns-then-holds-argument c =
    let f : ℕ → Bool = λ a. slice_index_or c.args.holds.now a false in
    any_now f c.args.arguments.now c.loop-argument.argument-index (list_any f c.args.arguments.now) c.loop-argument-test.true
    c.if-holds-argument.true c.loop-argument.invariant

pub loop-argument-preserved : goal.loop-argument-preserved
loop-argument-preserved c =
    let f : ℕ → Bool = λ a. slice_index_or c.args.holds.now a false in
    any_more f c.args.arguments.now c.loop-argument.argument-index (list_any f c.args.arguments.now) c.loop-argument-test.true
    c.if-holds-argument.false c.loop-argument.invariant
