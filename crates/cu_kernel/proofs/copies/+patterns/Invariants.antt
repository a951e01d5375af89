use Rattle.std.proofs.Common.{◌≡◌, ◌++◌, drop, map}
use Rattle.cu_kernel.specs.TermsOf.{pattern_of}
use Rattle.cu_kernel.proofs.copies.+patterns.Given as goal

-- the copies and the patterns that are left are all
abbrev pub invariant-copy_patterns-loop-pattern : goal.invariant-copy_patterns-loop-pattern
invariant-copy_patterns-loop-pattern l = map pattern_of l.copies.items ++ map pattern_of (drop l.pattern-index l.patterns) ≡ map pattern_of l.patterns
