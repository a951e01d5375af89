use Rattle.std.proofs.Common.{◌≡◌, ◌+◌, drop, option_map}
use Rattle.cu_calculus.specs.Choose.{leftmost}
use Rattle.cu_matrix.specs.Meaning.{patterns_at}
use Rattle.cu_matrix.proofs.demand.leftmost.Given as goal

abbrev pub invariant-loop-position : goal.invariant-loop-position
invariant-loop-position l = option_map (λ k. k + l.position) (leftmost (patterns_at (drop l.position l.patterns))) ≡ leftmost (patterns_at l.patterns)
