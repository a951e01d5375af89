use Rattle.std.proofs.Common.{◌<◌, ◌≤◌, ◌≡◌, ◌∙◌, Bool, ap, arith, false, get_or, length, map, option_map, refl, sym}
use Rattle.std.proofs.lemmas.List.{length-map}
use Rattle.std.proofs.lemmas.Option.{slice_get-get_or, slice_get-map, slice_get_read}
use Rattle.cu_kernel.specs.LocalKernelOf.{local_function_meaning}
use Rattle.cu_parts.proofs.ScopedSteps.{may_all, may_next, refused_capture}
use Rattle.cu_parts.specs.Inside.Capturing.{met_at, truth}
use Rattle.cu_parts.specs.Inside.Scoping.{fits_capturing}
use Rattle.cu_parts.proofs.scoped.are_capturing.Goals as goal

pub returns-then-not-branch : goal.returns-then-not-branch
returns-then-not-branch c =
    let locals = c.args.locals.now in let met = c.args.met.now in let n = c.loop-place.place in let f = c.index-locals-place.result in
    let sized = c.requires in
    let low : n < length locals = omega arith in
    let low_met : n < length met = omega arith in
    let here : get_or met n false ≡ met_at met n = sym (ap truth (slice_get-get_or met n false low_met)) in
    refused_capture (map local_function_meaning locals) c.args.x c.args.bound met n (local_function_meaning f) c.in_ok-fits_capturing.field-0
    (slice_get-map local_function_meaning locals n
    ∙ ap (option_map local_function_meaning) (slice_get_read locals (length locals) n f refl low c.index-locals-place.is))
    (c.in_ok-fits_capturing.ensures ∙ ap (λ (m : Bool). fits_capturing c.args.x c.args.bound m (local_function_meaning f)) here) c.if-not-branch.true

pub loop-place-preserved : goal.loop-place-preserved
loop-place-preserved c =
    let locals = c.args.locals.now in let met = c.args.met.now in let n = c.loop-place.place in let f = c.index-locals-place.result in
    let sized = c.requires in
    let low : n < length locals = omega arith in
    let low_met : n < length met = omega arith in
    let here : get_or met n false ≡ met_at met n = sym (ap truth (slice_get-get_or met n false low_met)) in
    may_next (map local_function_meaning locals) c.args.x c.args.bound met n (local_function_meaning f)
    (slice_get-map local_function_meaning locals n
    ∙ ap (option_map local_function_meaning) (slice_get_read locals (length locals) n f refl low c.index-locals-place.is))
    (sym (c.in_ok-fits_capturing.ensures ∙ ap (λ (m : Bool). fits_capturing c.args.x c.args.bound m (local_function_meaning f)) here) ∙ c.if-not-branch.false)
    c.loop-place.invariant

pub returns : goal.returns
returns c =
    let locals = c.args.locals.now in
    let size = length-map locals local_function_meaning in
    let end : length (map local_function_meaning locals) ≤ c.loop-place.place = omega (arith, size) in (
      λ h. may_all (map local_function_meaning locals) c.args.x c.args.bound c.args.met.now c.loop-place.place end c.loop-place.invariant,
      λ may. refl,
    )
