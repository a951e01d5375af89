use Rattle.std.proofs.Common.{◌≡◌, ◌+◌, ◌-◌}
use Rattle.cu_types.proofs.keeping.range_meets.Given as goal
use Rattle.cu_types.specs.Inside.Keeping.{numbers_from, some_meets}
use Rattle.cu_types.specs.Meaning.{subst_of}

abbrev pub invariant-loop-offset : goal.invariant-loop-offset
invariant-loop-offset l =
    some_meets (subst_of l.subst) l.variables (numbers_from (l.first + l.offset) (l.count - l.offset))
    ≡ some_meets (subst_of l.subst) l.variables (numbers_from l.first l.count)
