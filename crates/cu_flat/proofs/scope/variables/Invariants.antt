use Rattle.std.proofs.Common.{◌≡◌, ◌++◌, IsTrue, drop}
use Rattle.cu_calculus.specs.Flat.{are_variables}
use Rattle.cu_calculus.specs.Valid.{all_variables}
use Rattle.cu_kernel.specs.TermsOf.{patterns_of}
use Rattle.cu_flat.proofs.scope.variables.Given as goal

-- the patterns that are left are variables, and with those found they are all
abbrev pub invariant-loop-pattern : goal.invariant-loop-pattern
invariant-loop-pattern l =
    IsTrue (are_variables (patterns_of (drop l.pattern-index l.patterns)))
    × (l.found.items ++ all_variables (patterns_of (drop l.pattern-index l.patterns)) ≡ all_variables (patterns_of l.patterns))
