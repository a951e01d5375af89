use Rattle.std.proofs.Common.{◌≡◌, drop}
use Rattle.cu_kernel.specs.LocalValid.{patterns_pass}
use Rattle.cu_kernel.specs.TermsOf.{patterns_of}
use Rattle.cu_parts.specs.Inside.KnownHeads.{known_heads}
use Rattle.cu_parts.proofs.heads.+patterns.Given as goal

-- the patterns that are left pass where all do
abbrev pub invariant-patterns_pass-loop-pattern : goal.invariant-patterns_pass-loop-pattern
invariant-patterns_pass-loop-pattern l =
    patterns_pass (known_heads l.known) (patterns_of (drop l.pattern-index l.patterns)) ≡ patterns_pass (known_heads l.known) (patterns_of l.patterns)
