use Rattle.std.proofs.Common.{sym, ◌∙◌}
use Rattle.cu_crwl.proofs.Pairwise.{ends, goes_on, lengths_differ, stops}
use Rattle.cu_crwl.proofs.SamePairs.{all_patterns, by_patterns, one_pattern}
use Rattle.cu_crwl.proofs.Views.{not-pattern-Alias, not-pattern-Con, not-pattern-Lit, not-pattern-Var}
use Rattle.cu_crwl.proofs.same.+patterns.Goals as goal

pub pattern_is-returns-in_default : goal.pattern_is-returns-in_default
pattern_is-returns-in_default t c = not-pattern-Var c.args.left.now c.args.right.now _ c.in_default.is-0 c.in_default.not-Var-1

pub pattern_is-returns-in_default-2 : goal.pattern_is-returns-in_default-2
pattern_is-returns-in_default-2 t c = not-pattern-Lit c.args.left.now c.args.right.now _ c.in_default.is-0 c.in_default.not-Lit-1

pub pattern_is-returns-in_default-3 : goal.pattern_is-returns-in_default-3
pattern_is-returns-in_default-3 t c = not-pattern-Con c.args.left.now c.args.right.now _ _ c.in_default.is-0 c.in_default.not-Con-1

pub pattern_is-returns-in_default-4 : goal.pattern_is-returns-in_default-4
pattern_is-returns-in_default-4 t c = not-pattern-Alias c.args.left.now c.args.right.now _ _ c.in_default.is-0 c.in_default.not-Alias-1

pub patterns_are-returns-then-left-right : goal.patterns_are-returns-then-left-right
patterns_are-returns-then-left-right t c = lengths_differ all_patterns one_pattern by_patterns c.args.left.now c.args.right.now c.if-left-right.true

pub patterns_are-loop-i-preserved : goal.patterns_are-loop-i-preserved
patterns_are-loop-i-preserved t c = (
  c.loop-i.invariant.0,
  goes_on all_patterns one_pattern by_patterns c.args.left.now c.args.right.now c.loop-i.i c.index-left-i.result c.index-right-i.result
      c.loop-i-test.true c.loop-i.invariant.0 c.index-left-i.is c.index-right-i.is (sym c.pattern_is.ensures ∙ c.if-not-pattern_is.false) c.loop-i.invariant.1,
)

pub patterns_are-returns-then-not-pattern_is : goal.patterns_are-returns-then-not-pattern_is
patterns_are-returns-then-not-pattern_is t c =
    stops all_patterns one_pattern by_patterns c.args.left.now c.args.right.now c.loop-i.i c.index-left-i.result c.index-right-i.result
    c.loop-i-test.true c.loop-i.invariant.0 c.index-left-i.is c.index-right-i.is (sym c.pattern_is.ensures ∙ c.if-not-pattern_is.true) c.loop-i.invariant.1

pub patterns_are-returns : goal.patterns_are-returns
patterns_are-returns t c = ends all_patterns one_pattern by_patterns c.args.left.now c.args.right.now c.loop-i.i c.loop-i-test.false c.loop-i.invariant.0 c.loop-i.invariant.1
