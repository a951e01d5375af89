use Rattle.std.proofs.Common.{rules, ◌≡◌, ◌+◌, ◌++◌, ℕ, List, length, sym, ap, ◌∙◌, arith}
use Rattle.std.proofs.lemmas.Result.{on_ok_weaker}
use Rattle.cu_calculus.specs.Term as clean
use Rattle.cu_calculus.specs.Valid.{term_count, variables_of}
use Rattle.cu_kernel.specs.TermsOf.{pattern_of, term_of, term_of-Free, term_of-Let, terms_of}
use Rattle.cu_kernel.specs.declared.term.Term.{Term}
use Rattle.cu_types.proofs.RuleLemmas.{walking_starts}
use Rattle.cu_types.proofs.WalkLoops.{terms_end, terms_step}
use Rattle.cu_types.specs.Equations.{bind_from, terms_ask}
use Rattle.cu_types.specs.Inside.Walking.{heads, scope}
use Rattle.cu_types.proofs.WalkLemmas.{alternative_walks, applied_walks, apply_walks, free_walks, let_walks, scoped_walks, terms_counted}
use Rattle.cu_types.proofs.walk.Walk.+terms.Goals as goal

pub applied-returns : goal.applied-returns
applied-returns t c =
    let items : c.in-Ok.count ≡ length c.args.arguments.now = omega (arith, c.in-Ok.ensures) in
    let counted : c.in-Ok.count ≡ term_count (terms_of c.args.arguments.now) = items ∙ sym (terms_counted c.args.arguments.now) in
    on_ok_weaker c.terms.result
    (λ rest. applied_walks c.args.self.now c.take.new.self c.call.new.self c.terms.new.self c.args.head (terms_of c.args.arguments.now)
    c.in_ok-first.first c.in-Ok.count c.args.t c.in_ok-first.ensures.first counted c.in_ok-first.ensures.asks c.in_ok-call.ensures rest)
    c.terms.ensures

pub apply-returns : goal.apply-returns
apply-returns t c =
    let next : c.in-Some.second ≡ c.in_ok-first.first + 1 = search rules in
    on_ok_weaker c.term-2.result
    (λ rest. apply_walks c.args.self.now c.take.new.self c.function.new.self c.term.new.self c.term-2.new.self c.in_ok-first.first
    c.in-Some.second c.args.t (term_of c.args.function.now) (term_of c.args.argument.now) c.in_ok-first.ensures.first next
    c.in_ok-first.ensures.asks c.in_ok-function.ensures c.in_ok-term.ensures rest)
    c.term-2.ensures

pub scoped-returns : goal.scoped-returns
scoped-returns t c =
    scoped_walks c.args.self.now c.bind.new.self c.term.new.self c.bind-2.new.self c.args.x c.args.own c.in_ok-before.before c.args.t
    (term_of c.args.body.now) c.in_ok-before.ensures.bound c.in_ok-before.ensures.before c.in_ok-term.ensures c.in_ok-bind.ensures.bound

pub term-returns-in_ok-term-in-Let : goal.term-returns-in_ok-term-in-Let
term-returns-in_ok-term-in-Let t c =
    on_ok_weaker c.scoped.result
    (λ rest. let_walks c.args.self.now c.take.new.self c.term.new.self c.scoped.new.self c.in-Let.x c.in_ok-own-in-Let.own c.args.t
    (term_of c.deref-in-Let.result.now) (term_of c.deref-in-Let-2.result.now) (term_of c.args.term.now)
    (ap term_of c.in-Let.is ∙ term_of-Let c.in-Let.x c.in-Let.value c.in-Let.body
    ∙ ap (λ (u : Term). clean.Let c.in-Let.x (term_of u) (term_of c.in-Let.body.value)) (sym c.deref-in-Let.ensures)
    ∙ ap (λ (u : Term). clean.Let c.in-Let.x (term_of c.deref-in-Let.result.now) (term_of u)) (sym c.deref-in-Let-2.ensures))
    c.in_ok-own-in-Let.ensures.first c.in_ok-own-in-Let.ensures.asks c.in_ok-term-in-Let.ensures rest)
    c.scoped.ensures

pub term-returns-in_ok-own-in-Free : goal.term-returns-in_ok-own-in-Free
term-returns-in_ok-own-in-Free t c =
    on_ok_weaker c.scoped-in-Free.result
    (λ rest. free_walks c.args.self.now c.take-in-Free.new.self c.scoped-in-Free.new.self c.in-Free.x c.in_ok-own-in-Free.own c.args.t
    (term_of c.deref-in-Free.result.now) (term_of c.args.term.now)
    (ap term_of c.in-Free.is ∙ term_of-Free c.in-Free.x c.in-Free.body
    ∙ ap (λ (u : Term). clean.Free c.in-Free.x (term_of u)) (sym c.deref-in-Free.ensures))
    c.in_ok-own-in-Free.ensures.first c.in_ok-own-in-Free.ensures.asks rest)
    c.scoped-in-Free.ensures

pub alternative-returns : goal.alternative-returns
alternative-returns t c =
    let a = c.args.self.now in
    let xs : List ℕ = c.push_variables.new.variables.items in
    let count : c.in-Ok.count ≡ length xs = omega (arith, c.in-Ok.ensures, c.push_variables.new.variables.ok.0) in
    let are : xs ≡ variables_of (pattern_of c.args.pattern.now) =
    c.in_ok-push_variables.ensures ∙ ap (λ (ys : List ℕ). ys ++ variables_of (pattern_of c.args.pattern.now)) c.new-variables.ensures.items in
    alternative_walks a c.take.new.self c.bind_all.new.self c.pattern.new.self c.term.new.self c.undo.new.self xs
    c.in_ok-bindings.bindings.items (pattern_of c.args.pattern.now) (term_of c.args.body.now) c.args.s c.args.t c.in_ok-first.first c.in-Ok.count
    are count c.in_ok-first.ensures.first c.in_ok-first.ensures.asks
    (c.in_ok-bindings.ensures.bound ∙ ap (bind_from (scope a) c.in_ok-first.first) c.as_slice.ensures.value) c.in_ok-bindings.ensures.before
    c.in_ok-pattern.ensures c.in_ok-term.ensures c.in_ok-undo.ensures

pub terms-loop-term-init : goal.terms-loop-term-init
terms-loop-term-init t c =
    walking_starts c.args.self.now
    (terms_ask (heads c.args.self.now) (scope c.args.self.now) c.args.first (terms_of c.args.terms.now)) c.requires

pub terms-loop-term-preserved : goal.terms-loop-term-preserved
terms-loop-term-preserved t c =
    let next : c.in-Some.next ≡ c.loop-term.t + 1 = c.in-Some.ensures.1 in
    terms_step c.args.self.now c.loop-term.self c.term.new.self
    (terms_ask (heads c.args.self.now) (scope c.args.self.now) c.args.first (terms_of c.args.terms.now)) c.args.terms.now
    c.loop-term.term-index c.loop-term.t c.in-Some.next c.term-item.result c.loop-term-test.true c.term-item.is next c.loop-term.invariant
    c.in_ok-term.ensures

pub terms-returns : goal.terms-returns
terms-returns t c =
    terms_end c.args.self.now c.loop-term.self
    (terms_ask (heads c.args.self.now) (scope c.args.self.now) c.args.first (terms_of c.args.terms.now)) c.args.terms.now
    c.loop-term.term-index c.loop-term.t c.loop-term-test.false c.loop-term.invariant
