use Rattle.std.proofs.Common.{◌<◌, ◌∙◌, Some, List, ap, arith, false, length, map, option_map, refl, sym}
use Rattle.std.proofs.lemmas.Option.{slice_get-get_or, slice_get-map, slice_get_read}
use Rattle.cu_kernel.specs.Captures.{rules_use}
use Rattle.cu_kernel.specs.LocalKernelOf.{local_function_meaning, local_rule_meaning}
use Rattle.cu_kernel.specs.declared.local.LocalFunction.{LocalFunction}
use Rattle.cu_kernel.specs.declared.local.LocalRule.{LocalRule}
use Rattle.cu_parts.proofs.CapturingSteps.{first_met}
use Rattle.cu_parts.specs.Inside.Capturing.{is_met}
use Rattle.cu_parts.proofs.capturing.meet.Goals as goal

pub returns : goal.returns
returns c =
    let met = c.args.met.now in
    let locals = c.args.locals.now in
    let k = c.args.place in
    let f = c.index-locals-place.result in
    let sized = c.requires.sized in
    let place = c.requires.place in
    let low : k < length met = omega arith in
    let rules = c.as_slice.ensures.value ∙ ap (λ (g : LocalFunction). g.rules.items) (sym c.index-locals-place.is) in
    first_met (map local_function_meaning locals) c.args.x k met (local_function_meaning f)
    (slice_get-get_or met k false low ∙ ap Some c.if-met-place.false)
    (slice_get-map local_function_meaning locals k
    ∙ ap (option_map local_function_meaning) (slice_get_read locals (length locals) k f refl place c.index-locals-place.is))
    (ap (λ (rs : List LocalRule). rules_use (is_met met) c.args.x (map local_rule_meaning rs)) (sym rules) ∙ sym c.rules_use.ensures ∙ c.if-not-rules_use.false)
