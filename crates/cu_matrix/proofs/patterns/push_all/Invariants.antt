use Rattle.std.proofs.Common.{◌≡◌, ◌++◌, map, drop}
use Rattle.cu_kernel.specs.TermsOf.{pattern_of}
use Rattle.cu_matrix.specs.Meaning.{patterns_at}
use Rattle.cu_matrix.proofs.patterns.push_all.Given as goal

abbrev pub invariant-loop-argument : goal.invariant-loop-argument
invariant-loop-argument l =
    patterns_at l.patterns.items ++ map pattern_of (drop l.argument-index l.arguments) ≡ patterns_at l.fn.patterns.items ++ map pattern_of l.arguments
