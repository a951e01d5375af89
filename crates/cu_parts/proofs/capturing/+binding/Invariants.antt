use Rattle.std.proofs.Common.{◌≡◌, drop}
use Rattle.cu_calculus.specs.Valid.{all_variables, holds}
use Rattle.cu_kernel.specs.TermsOf.{patterns_of}
use Rattle.cu_parts.proofs.capturing.+binding.Given as goal

-- the patterns that are left bind the variable where any does
abbrev pub invariant-patterns_bind-loop-pattern : goal.invariant-patterns_bind-loop-pattern
invariant-patterns_bind-loop-pattern l =
    holds l.x (all_variables (patterns_of (drop l.pattern-index l.patterns))) ≡ holds l.x (all_variables (patterns_of l.patterns))
