use Rattle.std.proofs.Common.{◌≡◌, ℕ, List, OnOk, rules, subst}
use Rattle.cu_prooftext.proofs.TermTexts.{case_written}
use Rattle.cu_prooftext.proofs.terms.+terms.Goals as goal

pub write_term-returns-in_ok-write_term_after-in-Case :
    goal.write_term-returns-in_ok-write_term_after-in-Case
write_term-returns-in_ok-write_term_after-in-Case t c =
    subst (λ (x : List ℕ). OnOk c.write_alternatives_after.result (c.write_alternatives_after.new.out.items ≡ x))
    (case_written c.args.out.now.items c.write_case.new.out.items c.write_term_after-in-Case.new.out.items c.args.term.now
    c.deref-in-Case.result.now c.in-Case.mode c.in-Case.scrutinee c.in-Case.alternatives c.deref-in-Case-2.result.now c.len-in-Case.result
    c.in-Case.is (search rules) c.deref-in-Case.ensures c.deref-in-Case-2.ensures.value c.in_ok-write_case-in-Case.ensures
    c.in_ok-write_term_after-in-Case.ensures)
    c.write_alternatives_after.ensures
