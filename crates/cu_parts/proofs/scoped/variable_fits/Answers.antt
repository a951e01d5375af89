use Rattle.std.proofs.Common.{◌≡◌, ◌↔◌, ◌∙◌, Bool, IfOk, IsTrue, List, ap, map, subst, sym}
use Rattle.cu_calculus.specs.Valid.{holds, is_linear}
use Rattle.cu_kernel.specs.Captures.{rules_use}
use Rattle.cu_kernel.specs.LocalKernel as kernel
use Rattle.cu_kernel.specs.LocalKernelOf.{local_function_meaning, local_rule_meaning, top_function_meaning}
use Rattle.cu_kernel.specs.LocalValid.{all_binders}
use Rattle.cu_kernel.specs.declared.local.LocalFunction.{LocalFunction}
use Rattle.cu_parts.proofs.ScopedLemmas.{variable_decided, variable_refused}
use Rattle.cu_parts.specs.Inside.Capturing.{AreCapturing, is_met}
use Rattle.cu_parts.specs.Inside.Scoping.{MayCapture}
use Rattle.cu_parts.proofs.scoped.variable_fits.Goals as goal

pub returns-then-rules_use : goal.returns-then-rules_use
returns-then-rules_use c =
    let f = top_function_meaning c.args.function.now in
    let met = c.in_ok-met.met.items in
    let capturing = subst (λ (ls : List LocalFunction). AreCapturing (map local_function_meaning ls) c.args.x met) c.as_slice-locals.ensures.value c.in_ok-met.ensures.capturing in
    variable_refused f c.args.x met (ap is_linear (sym c.requires.all) ∙ c.requires.once) capturing
    (ap (λ (rules : List kernel.LocalRule). rules_use (is_met met) c.args.x rules) (sym c.rules_of.ensures)
    ∙ ap (λ (ms : List Bool). rules_use (is_met ms) c.args.x (map local_rule_meaning c.rules_of.result.now)) (sym c.as_slice.ensures.value)
    ∙ sym c.rules_use.ensures ∙ c.if-rules_use.true)

pub returns : goal.returns
returns c =
    let f = top_function_meaning c.args.function.now in
    let met = c.in_ok-met.met.items in
    let x = c.args.x in
    let bound : c.holds.result ≡ holds x (all_binders f) = c.holds.ensures ∙ ap (holds x) c.requires.all in
    let capturing = subst (λ (ls : List LocalFunction). AreCapturing (map local_function_meaning ls) x met) c.as_slice-locals.ensures.value c.in_ok-met.ensures.capturing in
    let one = subst (λ (ms : List Bool). IfOk c.are_capturing.result (λ fit. IsTrue fit
    ↔ MayCapture (map local_function_meaning c.as_slice-locals.result.now) x c.holds.result ms)) c.as_slice-2.ensures.value c.are_capturing.ensures in
    let two = subst (λ (b : Bool). IfOk c.are_capturing.result (λ fit. IsTrue fit
    ↔ MayCapture (map local_function_meaning c.as_slice-locals.result.now) x b met)) bound one in
    let fit = subst (λ (ls : List LocalFunction). IfOk c.are_capturing.result (λ fit. IsTrue fit
    ↔ MayCapture (map local_function_meaning ls) x (holds x (all_binders f)) met)) c.as_slice-locals.ensures.value two in
    variable_decided f x met c.are_capturing.result (ap is_linear (sym c.requires.all) ∙ c.requires.once) capturing
    (ap (λ (rules : List kernel.LocalRule). rules_use (is_met met) x rules) (sym c.rules_of.ensures)
    ∙ ap (λ (ms : List Bool). rules_use (is_met ms) x (map local_rule_meaning c.rules_of.result.now)) (sym c.as_slice.ensures.value)
    ∙ sym c.rules_use.ensures ∙ c.if-rules_use.false)
    fit
