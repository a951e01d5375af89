use Rattle.std.proofs.Common.{◌≡◌, ◌++◌, drop}
use Rattle.cu_prooftext.specs.Text.{patterns_after}
use Rattle.cu_kernel.specs.TermsOf.{patterns_of}
use Rattle.cu_prooftext.proofs.terms.+patterns.Given as goal

-- what is written and what is left are the whole
abbrev pub invariant-write_patterns_after-loop-pattern :
    goal.invariant-write_patterns_after-loop-pattern
invariant-write_patterns_after-loop-pattern l =
    l.out.items ++ patterns_after (patterns_of (drop l.pattern-index l.patterns))
    ≡ l.fn.out.items ++ patterns_after (patterns_of l.patterns)
