use Rattle.std.proofs.Common.{◌∙◌, ap, sym}
use Rattle.cu_calculus.specs.Valid.{is_linear}
use Rattle.cu_kernel.specs.LocalKernelOf.{top_function_meaning}
use Rattle.cu_parts.proofs.ScopedLemmas.{scoped_decided}
use Rattle.cu_parts.proofs.scoped.is_scoped.Goals as goal

pub returns : goal.returns
returns c =
    scoped_decided (top_function_meaning c.args.function.now) c.variables_fit.result (sym c.if-not-arities_fit.ensures) (sym c.if-not-calls_fit.ensures)
    (ap is_linear (sym (c.as_slice.ensures.value ∙ c.in_ok-all.ensures)) ∙ sym c.in_ok-is_linear.ensures ∙ c.if-not-branch.false)
    c.variables_fit.ensures
