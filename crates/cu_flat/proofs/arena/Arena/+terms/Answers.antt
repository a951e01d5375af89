use Rattle.std.proofs.Common.{ℕ, Bool, [], ◌∷◌, ◌||◌, ◌&&◌, ap, append-nil, arith, drop, filter, map, refl, rules, sym, ◌∙◌, ◌+◌}
use Rattle.cu_kernel.specs.declared.term.Term.{the_lemmas}
use Rattle.cu_calculus.specs.Code as code
use Rattle.cu_calculus.specs.Term as clean
use Rattle.cu_flat.specs.Layout.{beside, binding, branches_use, uses}
use Rattle.cu_calculus.specs.Code.{Expr}
use Rattle.cu_kernel.proofs.Loops.{left}
use Rattle.cu_kernel.specs.TermsOf.{alternatives_of, pattern_of, term_of, terms_of}
use Rattle.cu_flat.specs.Meaning.{branch_meaning, entry_meaning}
use Rattle.std.proofs.lemmas.List.{drop_all}
use Rattle.cu_calculus.specs.WellFormed.{bound_by}
use Rattle.cu_flat.proofs.LaidTerms.{bound_by-shallow}
use Rattle.cu_flat.proofs.FlatParts.{apply-is, case-is, free-is, let-is, lit-is, or-is, part-is, var-is, whole-is, apply-flat, case-flat, free-flat, let-flat, or-flat, part-flat, whole-flat}
use Rattle.cu_flat.proofs.Laying.{laid-bound, laid-case, laid-headed, laid-over, laid-pair, laid-under, laid-with}
use Rattle.cu_flat.proofs.Parts.{filter-none, BranchesLeft-all, BranchesLeft-flat, BranchesLeft-more, BranchesLeft-start, TermsLeft-all, TermsLeft-more, TermsLeft-start, branch-pushed}
use Rattle.cu_flat.proofs.arena.Arena.+terms.Goals as goal

pub push_term-push_terms-requires : goal.push_term-push_terms-requires
push_term-push_terms-requires t c =
    (search (rules, the_lemmas), whole-flat c.args.term.now c.in-Whole.head c.in-Whole.arguments c.deref.result.now c.in-Whole.is c.deref.ensures.value c.requires)

pub push_term-push_terms-requires-in-Part : goal.push_term-push_terms-requires-in-Part
push_term-push_terms-requires-in-Part t c =
    (search (rules, the_lemmas), part-flat c.args.term.now c.in-Part.head c.in-Part.arguments c.deref-in-Part.result.now c.in-Part.is c.deref-in-Part.ensures.value c.requires)

pub push_term-push_term-requires : goal.push_term-push_term-requires
push_term-push_term-requires t c = (
  search (rules, the_lemmas),
  (apply-flat c.args.term.now c.in-Apply.function c.in-Apply.argument c.deref-in-Apply.result.now c.in-Apply.argument.value c.in-Apply.is
      c.deref-in-Apply.ensures refl c.requires).0,
)

pub push_term-push_term-requires-in-Apply : goal.push_term-push_term-requires-in-Apply
push_term-push_term-requires-in-Apply t c = (
  search (rules, the_lemmas),
  (apply-flat c.args.term.now c.in-Apply.function c.in-Apply.argument c.deref-in-Apply.result.now c.deref-in-Apply-2.result.now c.in-Apply.is
      c.deref-in-Apply.ensures c.deref-in-Apply-2.ensures c.requires).1,
)

pub push_term-push_term-requires-in-Let : goal.push_term-push_term-requires-in-Let
push_term-push_term-requires-in-Let t c = (
  search (rules, the_lemmas),
  (let-flat c.args.term.now c.in-Let.x c.in-Let.bound c.in-Let.body c.deref-in-Let.result.now c.in-Let.body.value c.in-Let.is
      c.deref-in-Let.ensures refl c.requires).0,
)

pub push_term-push_under-requires : goal.push_term-push_under-requires
push_term-push_under-requires t c = (
  search (rules, the_lemmas),
  (let-flat c.args.term.now c.in-Let.x c.in-Let.bound c.in-Let.body c.deref-in-Let.result.now c.deref-in-Let-2.result.now c.in-Let.is
      c.deref-in-Let.ensures c.deref-in-Let-2.ensures c.requires).1,
)

pub push_term-push_under-requires-in-Free : goal.push_term-push_under-requires-in-Free
push_term-push_under-requires-in-Free t c =
    (search (rules, the_lemmas), free-flat c.args.term.now c.in-Free.x c.in-Free.body c.deref-in-Free.result.now c.in-Free.is c.deref-in-Free.ensures c.requires)

pub push_term-push_term-requires-in-Or : goal.push_term-push_term-requires-in-Or
push_term-push_term-requires-in-Or t c = (
  search (rules, the_lemmas),
  (or-flat c.args.term.now c.in-Or.left c.in-Or.right c.deref-in-Or.result.now c.in-Or.right.value c.in-Or.is
      c.deref-in-Or.ensures refl c.requires).0,
)

pub push_term-push_term-requires-in-Or-2 : goal.push_term-push_term-requires-in-Or-2
push_term-push_term-requires-in-Or-2 t c = (
  search (rules, the_lemmas),
  (or-flat c.args.term.now c.in-Or.left c.in-Or.right c.deref-in-Or.result.now c.deref-in-Or-2.result.now c.in-Or.is
      c.deref-in-Or.ensures c.deref-in-Or-2.ensures c.requires).1,
)

pub push_term-push_term-requires-in-Case : goal.push_term-push_term-requires-in-Case
push_term-push_term-requires-in-Case t c = (
  search (rules, the_lemmas),
  (case-flat c.args.term.now c.in-Case.mode c.in-Case.scrutinee c.in-Case.rows c.deref-in-Case.result.now c.in-Case.rows.items c.in-Case.is
      c.deref-in-Case.ensures refl c.requires).0,
)

pub push_term-push_branches-requires : goal.push_term-push_branches-requires
push_term-push_branches-requires t c = (
  search (rules, the_lemmas),
  (case-flat c.args.term.now c.in-Case.mode c.in-Case.scrutinee c.in-Case.rows c.deref-in-Case.result.now c.deref-in-Case-2.result.now c.in-Case.is
      c.deref-in-Case.ensures c.deref-in-Case-2.ensures.value c.requires).1,
)

pub push_branches-loop-pattern-init : goal.push_branches-loop-pattern-init
push_branches-loop-pattern-init t c =
    BranchesLeft-start c.args.scope.now (alternatives_of c.args.rows.now) (map entry_meaning c.args.self.now.entries.items) _ _ c.requires
    (ap (map branch_meaning) c.new-branches.ensures.items) c.new-used.ensures.items

pub push_branches-push_under-requires : goal.push_branches-push_under-requires
push_branches-push_under-requires t c =
    let rows = c.args.rows.now in
    let row = c.loop-pattern-item.result in (
      search (rules, the_lemmas),
      (BranchesLeft-flat c.args.scope.now (alternatives_of rows) _ (pattern_of row.0) (term_of row.1)
          (alternatives_of (drop (c.loop-pattern.pattern-index + 1) rows)) _ _ _ _
          (ap alternatives_of (left rows c.loop-pattern.pattern-index row c.loop-pattern-test.true c.loop-pattern-item.is)) c.loop-pattern.invariant).1,
    )

pub push_terms-loop-term-init : goal.push_terms-loop-term-init
push_terms-loop-term-init t c =
    TermsLeft-start c.args.scope.now (terms_of c.args.terms.now) (map entry_meaning c.args.self.now.entries.items) _ _ c.requires
    c.new-places.ensures.items c.new-used.ensures.items

pub push_branches-loop-pattern-preserved : goal.push_branches-loop-pattern-preserved
push_branches-loop-pattern-preserved t c =
    let rows = c.args.rows.now in
    let i = c.loop-pattern.pattern-index in
    let row = c.loop-pattern-item.result in
    let plain = BranchesLeft-flat c.args.scope.now (alternatives_of rows) _ (pattern_of row.0) (term_of row.1) (alternatives_of (drop (i + 1) rows)) _ _ _ _
    (ap alternatives_of (left rows i row c.loop-pattern-test.true c.loop-pattern-item.is)) c.loop-pattern.invariant in
    BranchesLeft-more c.args.scope.now (alternatives_of rows) _ (pattern_of row.0) (term_of row.1) (alternatives_of (drop (i + 1) rows))
    (map entry_meaning c.args.self.now.entries.items) (map entry_meaning c.loop-pattern.self.entries.items)
    (map entry_meaning c.push_under.new.self.entries.items) (map branch_meaning c.loop-pattern.branches.items) (map branch_meaning c.push.new.self.items)
    c.loop-pattern.used.items c.in_ok-laid.laid.used.items c.in_ok-used.used.items c.bound_by.result.now c.in_ok-laid.laid.place
    (ap alternatives_of (left rows i row c.loop-pattern-test.true c.loop-pattern-item.is)) c.loop-pattern.invariant
    (c.bound_by.ensures ∙ ap bound_by c.in_ok-pattern.ensures ∙ bound_by-shallow (pattern_of row.0) plain.0)
    c.in_ok-laid.ensures
    (branch-pushed c.push.new.self.items c.loop-pattern.branches.items c.in_ok-pattern.pattern c.in_ok-laid.laid.place (pattern_of row.0)
    c.in_ok-push.ensures.items c.in_ok-pattern.ensures)
    (λ p q a b. c.in_ok-used.ensures p q (c.as_slice.ensures.value ∙ a) (c.as_slice-in-loop-pattern.ensures.value ∙ b))

pub push_branches-returns : goal.push_branches-returns
push_branches-returns t c =
    BranchesLeft-all c.args.scope.now (alternatives_of c.args.rows.now) _ _ _ _ _
    (ap alternatives_of (drop_all c.loop-pattern.pattern-index c.args.rows.now c.loop-pattern-test.false)) c.loop-pattern.invariant

pub push_terms-loop-term-preserved : goal.push_terms-loop-term-preserved
push_terms-loop-term-preserved t c =
    let terms = c.args.terms.now in
    let i = c.loop-term.term-index in
    let one = c.term-item.result in
    TermsLeft-more c.args.scope.now (terms_of terms) _ (term_of one) (terms_of (drop (i + 1) terms))
    (map entry_meaning c.args.self.now.entries.items) (map entry_meaning c.loop-term.self.entries.items)
    (map entry_meaning c.push_term.new.self.entries.items) c.loop-term.places.items c.push.new.self.items
    c.loop-term.used.items c.in_ok-laid.laid.used.items c.in_ok-used.used.items c.in_ok-laid.laid.place
    (ap terms_of (left terms i one c.loop-term-test.true c.term-item.is)) c.loop-term.invariant c.in_ok-laid.ensures c.in_ok-push.ensures.items
    (λ p q a b. c.in_ok-used.ensures p q (c.as_slice.ensures.value ∙ a) (c.as_slice-in-loop-term.ensures.value ∙ b))

pub push_terms-returns : goal.push_terms-returns
push_terms-returns t c =
    TermsLeft-all c.args.scope.now (terms_of c.args.terms.now) _ _ _ _ _
    (ap terms_of (drop_all c.loop-term.term-index c.args.terms.now c.loop-term-test.false)) c.loop-term.invariant

pub push_under-returns : goal.push_under-returns
push_under-returns t c =
    laid-under c.args.scope.now c.args.bound.now c.in_ok-inner.inner.items (term_of c.args.term.now) (map entry_meaning c.args.self.now.entries.items)
    (map entry_meaning c.push_term.new.self.entries.items) c.in_ok-laid.laid.place c.in_ok-laid.laid.used.items c.in_ok-used.used.items
    c.in_ok-inner.ensures
    (laid-with c.in_ok-inner.inner.items c.as_slice.result.now (term_of c.args.term.now) _ _ _ _ c.as_slice.ensures.value c.in_ok-laid.ensures)
    (c.in_ok-used.ensures ∙ ap (filter (beside c.args.bound.now)) c.as_slice-2.ensures.value)

pub push_term-returns-in_ok-used-in-Var : goal.push_term-returns-in_ok-used-in-Var
push_term-returns-in_ok-used-in-Var t c =
    let old = map entry_meaning c.args.self.now.entries.items in
    let e = code.Variable c.in-Var.x in
    laid-over c.push.result c.args.scope.now (term_of c.args.term.now) (clean.Variable c.in-Var.x) old old (map entry_meaning c.push.new.self.entries.items) []
    e e c.in_ok-used-in-Var.used.items (var-is c.args.term.now c.in-Var.x c.in-Var.is) (sym (append-nil old)) refl c.push.ensures.used c.push.ensures.pushed
    refl refl c.in_ok-used-in-Var.ensures

pub push_term-returns-in-Lit : goal.push_term-returns-in-Lit
push_term-returns-in-Lit t c =
    let old = map entry_meaning c.args.self.now.entries.items in
    let e = code.Literal c.in-Lit.literal in
    laid-over c.push-in-Lit.result c.args.scope.now (term_of c.args.term.now) (clean.Literal c.in-Lit.literal) old old
    (map entry_meaning c.push-in-Lit.new.self.entries.items) [] e e c.new.result.items (lit-is c.args.term.now c.in-Lit.literal c.in-Lit.is)
    (sym (append-nil old)) refl c.push-in-Lit.ensures.used c.push-in-Lit.ensures.pushed refl refl
    (c.new.ensures.items ∙ filter-none c.args.scope.now)

pub push_term-returns-in_ok-arguments-in-Whole : goal.push_term-returns-in_ok-arguments-in-Whole
push_term-returns-in_ok-arguments-in-Whole t c =
    laid-headed c.push-in-Whole.result c.args.scope.now (term_of c.args.term.now) (terms_of c.deref.result.now)
    (map entry_meaning c.args.self.now.entries.items) (map entry_meaning c.push_terms.new.self.entries.items)
    (map entry_meaning c.push-in-Whole.new.self.entries.items) c.in_ok-arguments-in-Whole.arguments.places.items c.in_ok-arguments-in-Whole.arguments.used.items
    (clean.Whole c.in-Whole.head) (code.Whole c.in-Whole.head)
    (whole-is c.args.term.now c.in-Whole.head c.in-Whole.arguments c.deref.result.now c.in-Whole.is c.deref.ensures.value)
    c.in_ok-arguments-in-Whole.ensures c.push-in-Whole.ensures.used c.push-in-Whole.ensures.pushed refl refl refl

pub push_term-returns-in_ok-arguments-in-Part : goal.push_term-returns-in_ok-arguments-in-Part
push_term-returns-in_ok-arguments-in-Part t c =
    laid-headed c.push-in-Part.result c.args.scope.now (term_of c.args.term.now) (terms_of c.deref-in-Part.result.now)
    (map entry_meaning c.args.self.now.entries.items) (map entry_meaning c.push_terms-in-Part.new.self.entries.items)
    (map entry_meaning c.push-in-Part.new.self.entries.items) c.in_ok-arguments-in-Part.arguments.places.items c.in_ok-arguments-in-Part.arguments.used.items
    (clean.Part c.in-Part.head) (code.Part c.in-Part.head)
    (part-is c.args.term.now c.in-Part.head c.in-Part.arguments c.deref-in-Part.result.now c.in-Part.is c.deref-in-Part.ensures.value)
    c.in_ok-arguments-in-Part.ensures c.push-in-Part.ensures.used c.push-in-Part.ensures.pushed refl refl refl

pub push_term-returns-in_ok-argument-in-Apply : goal.push_term-returns-in_ok-argument-in-Apply
push_term-returns-in_ok-argument-in-Apply t c =
    let scope = c.args.scope.now in
    let f = term_of c.deref-in-Apply.result.now in
    let a = term_of c.deref-in-Apply-2.result.now in
    let first = c.in_ok-function-in-Apply.function in
    let second = c.in_ok-argument-in-Apply.argument in
    laid-pair c.push_over.result scope scope (term_of c.args.term.now) (clean.Apply f a) f a
    (map entry_meaning c.args.self.now.entries.items) (map entry_meaning c.push_term.new.self.entries.items)
    (map entry_meaning c.push_term-in-Apply.new.self.entries.items) (map entry_meaning c.push_over.new.self.entries.items)
    first.place second.place first.used.items (filter (λ x. uses f x || uses a x) scope) code.Apply
    (apply-is c.args.term.now c.in-Apply.function c.in-Apply.argument c.deref-in-Apply.result.now c.deref-in-Apply-2.result.now c.in-Apply.is
    c.deref-in-Apply.ensures c.deref-in-Apply-2.ensures)
    c.in_ok-function-in-Apply.ensures c.in_ok-argument-in-Apply.ensures.place c.in_ok-argument-in-Apply.ensures.written
    (c.push_over.ensures.used (uses f) (uses a) c.in_ok-function-in-Apply.ensures.used_of c.in_ok-argument-in-Apply.ensures.used_of)
    c.push_over.ensures.pushed refl (omega arith) refl

pub push_term-returns-in_ok-right-in-Or : goal.push_term-returns-in_ok-right-in-Or
push_term-returns-in_ok-right-in-Or t c =
    let scope = c.args.scope.now in
    let a = term_of c.deref-in-Or.result.now in
    let b = term_of c.deref-in-Or-2.result.now in
    let first = c.in_ok-left-in-Or.left in
    let second = c.in_ok-right-in-Or.right in
    laid-pair c.push_over-in-Or.result scope scope (term_of c.args.term.now) (clean.Or a b) a b
    (map entry_meaning c.args.self.now.entries.items) (map entry_meaning c.push_term-in-Or.new.self.entries.items)
    (map entry_meaning c.push_term-in-Or-2.new.self.entries.items) (map entry_meaning c.push_over-in-Or.new.self.entries.items)
    first.place second.place first.used.items (filter (λ x. uses a x || uses b x) scope) code.Or
    (or-is c.args.term.now c.in-Or.left c.in-Or.right c.deref-in-Or.result.now c.deref-in-Or-2.result.now c.in-Or.is
    c.deref-in-Or.ensures c.deref-in-Or-2.ensures)
    c.in_ok-left-in-Or.ensures c.in_ok-right-in-Or.ensures.place c.in_ok-right-in-Or.ensures.written
    (c.push_over-in-Or.ensures.used (uses a) (uses b) c.in_ok-left-in-Or.ensures.used_of c.in_ok-right-in-Or.ensures.used_of)
    c.push_over-in-Or.ensures.pushed refl (omega arith) refl

pub push_term-returns-in_ok-body-in-Let : goal.push_term-returns-in_ok-body-in-Let
push_term-returns-in_ok-body-in-Let t c =
    let scope = c.args.scope.now in
    let x = c.in-Let.x in
    let a = term_of c.deref-in-Let.result.now in
    let b = term_of c.deref-in-Let-2.result.now in
    let first = c.in_ok-bound-in-Let.bound in
    let second = c.in_ok-body-in-Let.body in
    let after : ℕ → Bool = λ y. beside (x ∷ []) y && uses b y in
    laid-pair c.push_over-in-Let.result scope (binding (x ∷ []) scope) (term_of c.args.term.now) (clean.Let x a b) a b
    (map entry_meaning c.args.self.now.entries.items) (map entry_meaning c.push_term-in-Let.new.self.entries.items)
    (map entry_meaning c.push_under.new.self.entries.items) (map entry_meaning c.push_over-in-Let.new.self.entries.items)
    first.place second.place first.used.items (filter (λ y. uses a y || after y) scope) (code.Let x)
    (let-is c.args.term.now x c.in-Let.bound c.in-Let.body c.deref-in-Let.result.now c.deref-in-Let-2.result.now c.in-Let.is
    c.deref-in-Let.ensures c.deref-in-Let-2.ensures)
    c.in_ok-bound-in-Let.ensures c.in_ok-body-in-Let.ensures.place c.in_ok-body-in-Let.ensures.written
    (c.push_over-in-Let.ensures.used (uses a) after c.in_ok-bound-in-Let.ensures.used_of c.in_ok-body-in-Let.ensures.used_of)
    c.push_over-in-Let.ensures.pushed refl (omega arith) refl

pub push_term-returns-in_ok-body-in-Free : goal.push_term-returns-in_ok-body-in-Free
push_term-returns-in_ok-body-in-Free t c =
    let x = c.in-Free.x in
    laid-bound c.push-in-Free.result c.args.scope.now (term_of c.args.term.now) x (term_of c.deref-in-Free.result.now)
    (map entry_meaning c.args.self.now.entries.items) (map entry_meaning c.push_under-in-Free.new.self.entries.items)
    (map entry_meaning c.push-in-Free.new.self.entries.items) c.in_ok-body-in-Free.body.place c.in_ok-body-in-Free.body.used.items
    (free-is c.args.term.now x c.in-Free.body c.deref-in-Free.result.now c.in-Free.is c.deref-in-Free.ensures)
    c.in_ok-body-in-Free.ensures c.push-in-Free.ensures.used c.push-in-Free.ensures.pushed

pub push_term-returns-in_ok-branches-in-Case : goal.push_term-returns-in_ok-branches-in-Case
push_term-returns-in_ok-branches-in-Case t c =
    let scope = c.args.scope.now in
    let a = term_of c.deref-in-Case.result.now in
    let rows = alternatives_of c.deref-in-Case-2.result.now in
    let made = c.in_ok-branches-in-Case.branches in
    laid-case c.push_case.result scope (term_of c.args.term.now) c.in-Case.mode a rows
    (map entry_meaning c.args.self.now.entries.items) (map entry_meaning c.push_term-in-Case.new.self.entries.items)
    (map entry_meaning c.push_branches.new.self.entries.items) (map entry_meaning c.push_case.new.self.entries.items)
    c.in_ok-scrutinee-in-Case.scrutinee.place c.in_ok-scrutinee-in-Case.scrutinee.used.items (map branch_meaning made.branches.items) made.used.items
    (case-is c.args.term.now c.in-Case.mode c.in-Case.scrutinee c.in-Case.rows c.deref-in-Case.result.now c.deref-in-Case-2.result.now c.in-Case.is
    c.deref-in-Case.ensures c.deref-in-Case-2.ensures.value)
    c.in_ok-scrutinee-in-Case.ensures c.in_ok-branches-in-Case.ensures
    (c.push_case.ensures.used (uses a) (branches_use rows) c.in_ok-scrutinee-in-Case.ensures.used_of c.in_ok-branches-in-Case.ensures.used_of)
    c.push_case.ensures.pushed
