use Rattle.cu_kernel.specs.TermsOf.{term_of}
use Rattle.cu_crwl.proofs.CopyLaws.{case_copied, copied_all, row_of, same_rows, same_terms}
use Rattle.cu_crwl.proofs.copy.+terms.Goals as goal

pub copy_alternatives-returns : goal.copy_alternatives-returns
copy_alternatives-returns t c =
    same_rows c.loop-alternative.copies.items c.args.alternatives.now
    (copied_all row_of c.loop-alternative.copies.items c.args.alternatives.now c.loop-alternative.alternative-index c.loop-alternative-test.false
    c.loop-alternative.invariant)

pub copy_terms-returns : goal.copy_terms-returns
copy_terms-returns t c =
    same_terms c.loop-term.copies.items c.args.terms.now
    (copied_all term_of c.loop-term.copies.items c.args.terms.now c.loop-term.term-index c.loop-term-test.false c.loop-term.invariant)

pub copy_term-returns-in_ok-rows-in-Case : goal.copy_term-returns-in_ok-rows-in-Case
copy_term-returns-in_ok-rows-in-Case t c =
    case_copied c.args.term.now c.in-Case.mode c.in_ok-copy-in-Case.copy c.in-Case.scrutinee c.in_ok-rows-in-Case.rows c.in-Case.alternatives
    c.deref-in-Case.result.now c.deref-in-Case-2.result.now c.in-Case.is c.deref-in-Case.ensures c.deref-in-Case-2.ensures.value
    c.in_ok-copy-in-Case.ensures c.in_ok-rows-in-Case.ensures
