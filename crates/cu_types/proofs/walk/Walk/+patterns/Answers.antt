use Rattle.std.proofs.Common.{◌≡◌, ◌+◌, List, length, sym, ap, ◌∙◌, subst, arith}
use Rattle.std.proofs.lemmas.Result.{on_ok_weaker}
use Rattle.cu_calculus.specs.Valid.{pattern_count}
use Rattle.cu_kernel.specs.TermsOf.{pattern_of, pattern_of-Con, patterns_of}
use Rattle.cu_kernel.specs.declared.term.Pattern.{Pattern}
use Rattle.cu_types.proofs.RuleLemmas.{walking_starts}
use Rattle.cu_types.proofs.WalkLoops.{patterns_end, patterns_step}
use Rattle.cu_types.proofs.WalkLemmas.{built_walks, patterns_counted}
use Rattle.cu_types.specs.Equations.{patterns_ask}
use Rattle.cu_types.specs.Inside.Walking.{Walks, heads, scope}
use Rattle.cu_types.proofs.walk.Walk.+patterns.Goals as goal

pub pattern-returns-in_ok-call-in-Con : goal.pattern-returns-in_ok-call-in-Con
pattern-returns-in_ok-call-in-Con t c =
    let ps = patterns_of c.in-Con.arguments.items in
    let items : c.in-Ok.count ≡ length c.in-Con.arguments.items =
    omega (arith, c.in-Ok.ensures, c.len.ensures, c.in-Con.arguments.ok.0) in
    let counted : c.in-Ok.count ≡ pattern_count ps = items ∙ sym (patterns_counted c.in-Con.arguments.items) in
    on_ok_weaker c.patterns.result
    (λ rest. built_walks c.args.self.now c.take.new.self c.call.new.self c.patterns.new.self c.in-Con.constructor ps
    (pattern_of c.args.pattern.now) c.in_ok-first-in-Con.first c.in-Ok.count c.args.t
    (ap pattern_of c.in-Con.is ∙ pattern_of-Con c.in-Con.constructor c.in-Con.arguments) c.in_ok-first-in-Con.ensures.first counted
    c.in_ok-first-in-Con.ensures.asks c.in_ok-call-in-Con.ensures
    (subst (λ (xs : List Pattern). Walks c.call.new.self c.patterns.new.self
    (patterns_ask (heads c.call.new.self) (scope c.call.new.self) c.in_ok-first-in-Con.first (patterns_of xs))) c.deref.ensures.value rest))
    c.patterns.ensures

pub patterns-loop-pattern-init : goal.patterns-loop-pattern-init
patterns-loop-pattern-init t c =
    walking_starts c.args.self.now
    (patterns_ask (heads c.args.self.now) (scope c.args.self.now) c.args.first (patterns_of c.args.patterns.now)) c.requires

pub patterns-loop-pattern-preserved : goal.patterns-loop-pattern-preserved
patterns-loop-pattern-preserved t c =
    let next : c.in-Some.next ≡ c.loop-pattern.t + 1 = c.in-Some.ensures.1 in
    patterns_step c.args.self.now c.loop-pattern.self c.pattern.new.self
    (patterns_ask (heads c.args.self.now) (scope c.args.self.now) c.args.first (patterns_of c.args.patterns.now)) c.args.patterns.now
    c.loop-pattern.pattern-index c.loop-pattern.t c.in-Some.next c.pattern-item.result c.loop-pattern-test.true c.pattern-item.is next
    c.loop-pattern.invariant c.in_ok-pattern.ensures

pub patterns-returns : goal.patterns-returns
patterns-returns t c =
    patterns_end c.args.self.now c.loop-pattern.self
    (patterns_ask (heads c.args.self.now) (scope c.args.self.now) c.args.first (patterns_of c.args.patterns.now)) c.args.patterns.now
    c.loop-pattern.pattern-index c.loop-pattern.t c.loop-pattern-test.false c.loop-pattern.invariant
