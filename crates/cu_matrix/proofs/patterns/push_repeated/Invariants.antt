use Rattle.std.proofs.Common.{◌≡◌, ◌++◌, replicate}
use Rattle.cu_kernel.specs.TermsOf.{pattern_of}
use Rattle.cu_matrix.specs.Meaning.{patterns_at}
use Rattle.cu_matrix.proofs.patterns.push_repeated.Given as goal

abbrev pub invariant-loop : goal.invariant-loop
invariant-loop l = patterns_at l.patterns.items ≡ patterns_at l.fn.patterns.items ++ replicate l.counter (pattern_of l.pattern)
