use Rattle.std.proofs.Common.{◌∙◌, ◌+◌, drop, sym}
use Rattle.cu_kernel.specs.TermsOf.{term_of, terms_of}
use Rattle.cu_verdict.specs.Inside.Calls.{are_variables, is_variable}
use Rattle.cu_verdict.proofs.CallLaws.{fails, next_is, none_left, passes}
use Rattle.cu_verdict.proofs.terms.are_variables.Goals as goal

pub returns-then-not-is_variable : goal.returns-then-not-is_variable
returns-then-not-is_variable c =
    let i = c.loop-i.i in
    let ts = c.args.terms.now in
    let t = c.index-terms-i.result in
    sym (fails (are_variables (i + 1) (terms_of (drop (i + 1) ts))) (is_variable i (term_of t)) (sym c.is_variable.ensures ∙ c.if-not-is_variable.true))
    ∙ sym (next_is ts i t c.loop-i-test.true c.index-terms-i.is)
    ∙ c.loop-i.invariant

pub loop-i-preserved : goal.loop-i-preserved
loop-i-preserved c =
    let i = c.loop-i.i in
    let ts = c.args.terms.now in
    let t = c.index-terms-i.result in
    sym (passes (are_variables (i + 1) (terms_of (drop (i + 1) ts))) (is_variable i (term_of t)) (sym c.is_variable.ensures ∙ c.if-not-is_variable.false))
    ∙ sym (next_is ts i t c.loop-i-test.true c.index-terms-i.is)
    ∙ c.loop-i.invariant

pub returns : goal.returns
returns c = sym (none_left c.args.terms.now c.loop-i.i c.loop-i-test.false) ∙ c.loop-i.invariant
