use Rattle.std.proofs.Common.{List, [], drop}
use Rattle.cu_kernel.specs.Kernel.{Kernel}
use Rattle.cu_types.proofs.keeping.all_keep.Given as goal
use Rattle.cu_types.specs.Equations.{Member}
use Rattle.cu_types.specs.Inside.Keeping.{IsPending, with_members}
use Rattle.cu_types.specs.Inside.Knowing.{AreMembers}
use Rattle.cu_types.specs.Meaning.{subst_of}

abbrev pub invariant-loop-f : goal.invariant-loop-f
invariant-loop-f l = (kernel : Kernel) (ms : List Member) → AreMembers kernel l.known l.group ms
    → IsPending kernel l.known (subst_of l.subst) l.seen.keys (drop l.f-index l.group) (with_members (subst_of l.subst) [] ms)
