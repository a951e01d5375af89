use Rattle.std.proofs.Common.{◌<◌, length, map, get_or, refl, ◌∙◌, arith}
use Rattle.std.proofs.lemmas.List.{length-map}
use Rattle.std.proofs.lemmas.Option.{slice_get_read}
use Rattle.cu_calculus.proofs.Lists.{get_map}
use Rattle.cu_kernel.specs.KernelOf.{function_meaning}
use Rattle.cu_kernel.specs.LocalKernelOf.{local_function_meaning}
use Rattle.cu_lift.proofs.LiftedPlacing.{mapped_push, ordered_within, pushed_next}
use Rattle.cu_lift.specs.Inside.LiftedPlaces.{lifting_meaning, name_in}
use Rattle.cu_lift.specs.Lifting.{lifted_local}
use Rattle.cu_lift.proofs.lifted_functions.push_group.Goals as goal

pub index-local-requires : goal.index-local-requires
index-local-requires c =
    let locals = c.args.function.now.locals.items in
    let numbers = c.deref-number-items.ensures.value ∙ c.requires.ordered in
    let low = ordered_within (map local_function_meaning locals) c.deref-number-items.result.now c.loop-number.number-index 0 numbers c.loop-number-test.true in
    let many = length-map locals local_function_meaning in
    omega (arith, low, many, c.args.function.now.locals.ok.0)

pub loop-number-preserved : goal.loop-number-preserved
loop-number-preserved c =
    let locals = c.args.function.now.locals.items in
    let found = c.deref-number-items.result.now in
    let number = get_or found c.loop-number.number-index 0 in
    let numbers = c.deref-number-items.ensures.value ∙ c.requires.ordered in
    let low = ordered_within (map local_function_meaning locals) found c.loop-number.number-index 0 numbers c.loop-number-test.true in
    let many = length-map locals local_function_meaning in
    let below : number < length locals = omega (arith, low, many) in
    let f = c.index-local.result.now in
    pushed_next (lifted_local (lifting_meaning c.args.renaming.now) (name_in c.args.renaming.now.placement.now)) (map local_function_meaning locals) found
    c.loop-number.number-index 0 (local_function_meaning f) (map function_meaning c.loop-number.lifted.items)
    (map function_meaning c.push-in-loop-number.new.self.items) _ (function_meaning c.in_ok-lift_local.field-0) numbers c.loop-number-test.true
    (get_map local_function_meaning locals number f (slice_get_read locals (length locals) number f refl below c.index-local.ensures))
    c.in_ok-lift_local.ensures
    (mapped_push function_meaning c.loop-number.lifted.items c.push-in-loop-number.new.self.items c.in_ok-lift_local.field-0 c.in_ok-push-2.ensures.items)
    c.loop-number.invariant
