use Rattle.std.proofs.Common.{drop}
use Rattle.cu_kernel.specs.TermsOf.{patterns_of}
use Rattle.cu_types.proofs.walk.Walk.+patterns.Given as goal
use Rattle.cu_types.specs.Equations.{patterns_ask}
use Rattle.cu_types.specs.Inside.Walking.{IsWalking, heads, scope}

-- the patterns that are left, read off, give the whole
abbrev pub invariant-patterns-loop-pattern : goal.invariant-patterns-loop-pattern
invariant-patterns-loop-pattern l =
    IsWalking l.initial.self l.self
    (patterns_ask (heads l.initial.self) (scope l.initial.self) l.t (patterns_of (drop l.pattern-index l.patterns)))
    (patterns_ask (heads l.initial.self) (scope l.initial.self) l.first (patterns_of l.patterns))
