use Rattle.std.proofs.Common.{◌∙◌, ℕ, List, refl, subst}
use Rattle.cu_kernel.specs.LocalKernelOf.{top_function_meaning}
use Rattle.cu_parts.proofs.ScopedSteps.{all_fit, first_left, popped_none}
use Rattle.cu_parts.specs.Inside.Scoping.{Collects}
use Rattle.cu_parts.proofs.scoped.variables_fit.Goals as goal

pub loop-x-init : goal.loop-x-init
loop-x-init c =
    first_left (top_function_meaning c.args.function.now) c.in_ok-left.left.keys
    (subst (λ (xs : List ℕ). Collects xs c.in_ok-left.left.keys) (c.as_slice.ensures.value ∙ c.in_ok-used.ensures) c.in_ok-left.ensures)

pub returns : goal.returns
returns c =
    let none = popped_none c.pop_first.result c.loop-x.left.keys c.pop_first.ensures.variant.1 c.in_default.not-Some in
    (λ h. all_fit (top_function_meaning c.args.function.now) c.loop-x.left.keys none c.loop-x.invariant, λ all. refl)
