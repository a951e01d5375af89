use Rattle.std.proofs.Common.{◌≡◌, length, drop}
use Rattle.cu_calculus.specs.Match.{all_matched}
use Rattle.cu_calculus.specs.Value.{values_of}
use Rattle.cu_kernel.specs.TermsOf.{patterns_of}
use Rattle.cu_crwl.proofs.MatchLoops.{and_left}
use Rattle.cu_crwl.proofs.matching.+patterns.Given as goal

abbrev pub invariant-match_patterns-loop-i : goal.invariant-match_patterns-loop-i
invariant-match_patterns-loop-i l =
    (length l.patterns ≡ length l.values)
    × (and_left l.bindings.items (drop l.i l.patterns) (drop l.i l.values) ≡ all_matched (patterns_of l.patterns) (values_of l.values))
