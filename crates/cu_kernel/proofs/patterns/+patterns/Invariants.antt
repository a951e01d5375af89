use Rattle.std.proofs.Common.{◌≡◌, drop}
use Rattle.cu_calculus.specs.Valid.{fit_patterns}
use Rattle.cu_kernel.specs.Heads.{heads_program}
use Rattle.cu_kernel.specs.TermsOf.{patterns_of}
use Rattle.cu_kernel.proofs.patterns.+patterns.Given as goal

-- the patterns that are left fit where all do
abbrev pub invariant-patterns_fit-loop-pattern : goal.invariant-patterns_fit-loop-pattern
invariant-patterns_fit-loop-pattern l =
    fit_patterns (heads_program l.heads) (patterns_of (drop l.pattern-index l.patterns))
    ≡ fit_patterns (heads_program l.heads) (patterns_of l.patterns)
