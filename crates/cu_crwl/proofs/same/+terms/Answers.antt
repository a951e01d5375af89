use Rattle.std.proofs.Common.{sym, ◌∙◌}
use Rattle.cu_crwl.proofs.Pairwise.{ends, goes_on, lengths_differ, stops}
use Rattle.cu_crwl.proofs.SamePairs.{all_alternatives, all_terms, by_alternatives, by_terms, one_alternative, one_term}
use Rattle.cu_crwl.proofs.Views.{not-term-Apply, not-term-Case, not-term-Free, not-term-Let, not-term-Lit, not-term-Or, not-term-Part, not-term-Var, not-term-Whole}
use Rattle.cu_crwl.proofs.SamePairs.{cases_same}
use Rattle.cu_crwl.proofs.same.+terms.Goals as goal

pub term_is-returns-in_default : goal.term_is-returns-in_default
term_is-returns-in_default t c = not-term-Var c.args.left.now c.args.right.now _ c.in_default.is-0 c.in_default.not-Var-1

pub term_is-returns-in_default-2 : goal.term_is-returns-in_default-2
term_is-returns-in_default-2 t c = not-term-Lit c.args.left.now c.args.right.now _ c.in_default.is-0 c.in_default.not-Lit-1

pub term_is-returns-in_default-3 : goal.term_is-returns-in_default-3
term_is-returns-in_default-3 t c = not-term-Whole c.args.left.now c.args.right.now _ _ c.in_default.is-0 c.in_default.not-Whole-1

pub term_is-returns-in_default-4 : goal.term_is-returns-in_default-4
term_is-returns-in_default-4 t c = not-term-Part c.args.left.now c.args.right.now _ _ c.in_default.is-0 c.in_default.not-Part-1

pub term_is-returns-in_default-5 : goal.term_is-returns-in_default-5
term_is-returns-in_default-5 t c = not-term-Apply c.args.left.now c.args.right.now _ _ c.in_default.is-0 c.in_default.not-Apply-1

pub term_is-returns-in_default-6 : goal.term_is-returns-in_default-6
term_is-returns-in_default-6 t c = not-term-Let c.args.left.now c.args.right.now _ _ _ c.in_default.is-0 c.in_default.not-Let-1

pub term_is-returns-in_default-7 : goal.term_is-returns-in_default-7
term_is-returns-in_default-7 t c = not-term-Free c.args.left.now c.args.right.now _ _ c.in_default.is-0 c.in_default.not-Free-1

pub term_is-returns-in_default-8 : goal.term_is-returns-in_default-8
term_is-returns-in_default-8 t c = not-term-Or c.args.left.now c.args.right.now _ _ c.in_default.is-0 c.in_default.not-Or-1

pub term_is-returns-in_default-9 : goal.term_is-returns-in_default-9
term_is-returns-in_default-9 t c = not-term-Case c.args.left.now c.args.right.now _ _ _ c.in_default.is-0 c.in_default.not-Case-1

pub terms_are-returns-then-left-right : goal.terms_are-returns-then-left-right
terms_are-returns-then-left-right t c = lengths_differ all_terms one_term by_terms c.args.left.now c.args.right.now c.if-left-right.true

pub terms_are-loop-i-preserved : goal.terms_are-loop-i-preserved
terms_are-loop-i-preserved t c = (
  c.loop-i.invariant.0,
  goes_on all_terms one_term by_terms c.args.left.now c.args.right.now c.loop-i.i c.index-left-i.result c.index-right-i.result
      c.loop-i-test.true c.loop-i.invariant.0 c.index-left-i.is c.index-right-i.is (sym c.term_is.ensures ∙ c.if-not-term_is.false) c.loop-i.invariant.1,
)

pub terms_are-returns-then-not-term_is : goal.terms_are-returns-then-not-term_is
terms_are-returns-then-not-term_is t c =
    stops all_terms one_term by_terms c.args.left.now c.args.right.now c.loop-i.i c.index-left-i.result c.index-right-i.result
    c.loop-i-test.true c.loop-i.invariant.0 c.index-left-i.is c.index-right-i.is (sym c.term_is.ensures ∙ c.if-not-term_is.true) c.loop-i.invariant.1

pub terms_are-returns : goal.terms_are-returns
terms_are-returns t c = ends all_terms one_term by_terms c.args.left.now c.args.right.now c.loop-i.i c.loop-i-test.false c.loop-i.invariant.0 c.loop-i.invariant.1

pub alternatives_are-returns-then-left-right : goal.alternatives_are-returns-then-left-right
alternatives_are-returns-then-left-right t c = lengths_differ all_alternatives one_alternative by_alternatives c.args.left.now c.args.right.now c.if-left-right.true

pub term_is-returns-then-term_is-4 : goal.term_is-returns-then-term_is-4
term_is-returns-then-term_is-4 t c =
    cases_same c.args.left.now c.args.right.now _ _ c.in-Case-Case.value c.in-Case-Case.other c.in-Case-Case.rows c.in-Case-Case.others
    c.alternatives_are.result c.deref-then-term_is-4.result.now c.deref-then-term_is-4-2.result.now c.deref-in-Case-Case.result.now c.deref-in-Case-Case-2.result.now
    c.in-Case-Case.is-0 c.in-Case-Case.is-1 (sym c.if-not-modes_are.false ∙ c.modes_are.ensures) c.deref-in-Case-Case.ensures c.deref-in-Case-Case-2.ensures (sym c.if-term_is-4.true ∙ c.term_is-in-Case-Case.ensures)
    c.deref-then-term_is-4.ensures.value c.deref-then-term_is-4-2.ensures.value c.alternatives_are.ensures
