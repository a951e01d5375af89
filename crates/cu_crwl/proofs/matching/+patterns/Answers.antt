use Rattle.std.proofs.Common.{ℕ, ap, option_map, sym, ◌∙◌}
use Rattle.std.specs.declared.alloc.Global.{Global}
use Rattle.std.specs.declared.vec.Vec.{Vec}
use Rattle.cu_values.specs.declared.value.Value.{Value}
use Rattle.cu_calculus.specs.Value.{values_of}
use Rattle.cu_kernel.specs.TermsOf.{patterns_of}
use Rattle.cu_calculus.specs.Match.{all_matched}
use Rattle.cu_crwl.proofs.MatchLoops.{constructor_matched, counts_differ, match_one}
use Rattle.cu_crwl.proofs.matching.+patterns.Goals as goal

pub match_pattern-returns-in_ok-arguments-in-Con-head : goal.match_pattern-returns-in_ok-arguments-in-Con-head
match_pattern-returns-in_ok-arguments-in-Con-head t c =
    let same = constructor_matched c.args.pattern.now c.args.value.now c.in-Con.constructor c.in-Con-head.other c.in-Con-head.field-1 c.in-Con.patterns
    c.deref.result.now c.deref-in-Con-head.result.now c.in-Con.is (sym c.in-Con-head.ensures) c.if-constructor-other.false c.deref.ensures.value (c.deref-in-Con-head.ensures.value ∙ c.in_ok-arguments-in-Con-head.ensures) in
    rw same c.match_patterns.ensures

pub match_patterns-returns-then-patterns-values : goal.match_patterns-returns-then-patterns-values
match_patterns-returns-then-patterns-values t c = counts_differ c.args.patterns.now c.args.values.now c.if-patterns-values.true

pub match_patterns-loop-i-preserved : goal.match_patterns-loop-i-preserved
match_patterns-loop-i-preserved t c = (
  c.loop-i.invariant.0,
  match_one c.args.patterns.now c.args.values.now c.loop-i.i c.index-patterns-i.result c.index-values-i.result c.loop-i-test.true
      c.loop-i.invariant.0 c.index-patterns-i.is c.index-values-i.is c.loop-i.bindings.items c.in-Some.more.items c.append.new.bindings.items
      (all_matched (patterns_of c.args.patterns.now) (values_of c.args.values.now))
      (sym (ap (option_map (λ (b : Vec (ℕ × Value) Global). b.items)) c.in-Some.is) ∙ c.in_ok-more.ensures) c.in_ok-append-in-Some.ensures c.loop-i.invariant.1,
)
