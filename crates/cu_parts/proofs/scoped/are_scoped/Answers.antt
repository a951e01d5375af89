use Rattle.std.proofs.Common.{◌<◌, ◌≤◌, ◌∙◌, ap, arith, length, map, option_map, refl}
use Rattle.std.proofs.lemmas.List.{length-map}
use Rattle.std.proofs.lemmas.Option.{slice_get-map, slice_get_read}
use Rattle.cu_kernel.specs.LocalKernelOf.{top_function_meaning}
use Rattle.cu_parts.proofs.ScopedSteps.{refused_by, scoped_all, scoped_next}
use Rattle.cu_parts.proofs.scoped.are_scoped.Goals as goal

pub loop-function-preserved : goal.loop-function-preserved
loop-function-preserved c =
    let functions = c.args.functions.now in let n = c.loop-function.function-index in let f = c.function-item.result in
    let low : n < length functions = omega arith in
    scoped_next (map top_function_meaning functions) n (top_function_meaning f)
    (slice_get-map top_function_meaning functions n
    ∙ ap (option_map top_function_meaning) (slice_get_read functions (length functions) n f refl low c.function-item.is))
    (c.in_ok-is_scoped.ensures.0 c.if-not-branch.false) c.loop-function.invariant

pub returns-then-not-branch : goal.returns-then-not-branch
returns-then-not-branch c =
    let functions = c.args.functions.now in let n = c.loop-function.function-index in let f = c.function-item.result in
    let low : n < length functions = omega arith in
    refused_by c.in_ok-is_scoped.field-0 c.if-not-branch.true c.in_ok-is_scoped.ensures
    (λ all. all n (top_function_meaning f)
    (slice_get-map top_function_meaning functions n
    ∙ ap (option_map top_function_meaning) (slice_get_read functions (length functions) n f refl low c.function-item.is)))

pub returns : goal.returns
returns c =
    let functions = c.args.functions.now in
    let size = length-map functions top_function_meaning in
    let end : length (map top_function_meaning functions) ≤ c.loop-function.function-index = omega (arith, size) in
    (λ h. scoped_all (map top_function_meaning functions) c.loop-function.function-index end c.loop-function.invariant, λ all. refl)
