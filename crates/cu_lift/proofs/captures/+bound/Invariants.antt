use Rattle.std.proofs.Common.{◌≡◌, ◌+◌, ◌*◌, ◌++◌, drop}
use denote.Param.Weighed.{most}
use Rattle.cu_calculus.specs.Valid.{all_variables}
use Rattle.cu_kernel.specs.TermsOf.{patterns_of}
use Rattle.cu_kernel.specs.declared.term.Pattern.{size-Pattern}
use Rattle.cu_lift.specs.Inside.Capturing.{bound}
use Rattle.cu_lift.proofs.captures.+bound.Given as goal

abbrev pub invariant-push_patterns-loop-pattern : goal.invariant-push_patterns-loop-pattern
invariant-push_patterns-loop-pattern l =
    l.found.items ++ bound (all_variables (patterns_of (drop l.pattern-index l.patterns)))
    ≡ l.fn.found.items ++ bound (all_variables (patterns_of l.patterns))

abbrev pub decreases-push_pattern : goal.decreases-push_pattern
decreases-push_pattern l = 2 * size-Pattern l.pattern.now

abbrev pub decreases-push_patterns : goal.decreases-push_patterns
decreases-push_patterns l = 2 * most size-Pattern l.patterns.now + 1
