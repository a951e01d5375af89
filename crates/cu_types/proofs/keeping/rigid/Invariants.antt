use Rattle.std.proofs.Common.{◌≡◌, ◌+◌, ◌-◌}
use Rattle.cu_types.proofs.keeping.rigid.Given as goal
use Rattle.cu_types.specs.Inside.Keeping.{became, prefixed, numbers_from}
use Rattle.cu_types.specs.Meaning.{subst_of}

-- what was found, before what is left becomes, is what all become
abbrev pub invariant-loop-offset : goal.invariant-loop-offset
invariant-loop-offset l =
    prefixed l.found.items (became (subst_of l.subst) (numbers_from (l.first + l.offset) (l.count - l.offset)))
    ≡ became (subst_of l.subst) (numbers_from l.first l.count)
