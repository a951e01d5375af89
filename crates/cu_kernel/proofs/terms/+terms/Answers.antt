use Rattle.std.proofs.Common.{sym, ap, ◌∙◌, ◌++◌}
use Rattle.cu_calculus.specs.Valid.{is_linear, variables_of}
use Rattle.cu_kernel.proofs.TermLemmas.{alternative_fits}
use Rattle.cu_kernel.proofs.terms.+terms.Goals as goal
use Rattle.cu_kernel.specs.Heads.{heads_program}
use Rattle.cu_kernel.specs.TermsOf.{pattern_of}

pub alternatives_fit-returns-then-not-branch : goal.alternatives_fit-returns-then-not-branch
alternatives_fit-returns-then-not-branch t c =
    let bound = c.in_ok-push_variables.ensures ∙ ap (λ xs. xs ++ variables_of (pattern_of c.loop-pattern-item.result.0)) c.new-variables.ensures.items in
    alternative_fits (heads_program c.args.heads.now) c.args.alternatives.now c.loop-pattern.pattern-index c.loop-pattern-item.result
    c.as_slice-in-loop-pattern.result c.args.scope _ _ c.loop-pattern-test.true c.loop-pattern-item.is c.if-not-pattern_fits.ensures
    (c.as_slice-in-loop-pattern.ensures.value ∙ bound)
    (c.if-not-is_linear.ensures ∙ ap is_linear (c.as_slice.ensures.value ∙ sym c.as_slice-in-loop-pattern.ensures.value))
    (sym c.if-not-branch.true ∙ c.in_ok-term_fits.ensures) c.loop-pattern.invariant

pub alternatives_fit-loop-pattern-preserved : goal.alternatives_fit-loop-pattern-preserved
alternatives_fit-loop-pattern-preserved t c =
    let bound = c.in_ok-push_variables.ensures ∙ ap (λ xs. xs ++ variables_of (pattern_of c.loop-pattern-item.result.0)) c.new-variables.ensures.items in
    alternative_fits (heads_program c.args.heads.now) c.args.alternatives.now c.loop-pattern.pattern-index c.loop-pattern-item.result
    c.as_slice-in-loop-pattern.result c.args.scope _ _ c.loop-pattern-test.true c.loop-pattern-item.is c.if-not-pattern_fits.ensures
    (c.as_slice-in-loop-pattern.ensures.value ∙ bound)
    (c.if-not-is_linear.ensures ∙ ap is_linear (c.as_slice.ensures.value ∙ sym c.as_slice-in-loop-pattern.ensures.value))
    (sym c.if-not-branch.false ∙ c.in_ok-term_fits.ensures) c.loop-pattern.invariant
