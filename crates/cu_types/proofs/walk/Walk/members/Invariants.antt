use Rattle.std.proofs.Common.{drop}
use Rattle.cu_types.proofs.walk.Walk.members.Given as goal
use Rattle.cu_types.specs.Inside.Members.{group_asks}
use Rattle.cu_types.specs.Inside.Walking.{IsWalking, heads, scope}

-- the functions that are left, read off, give the whole
abbrev pub invariant-loop-f : goal.invariant-loop-f
invariant-loop-f l =
    IsWalking l.initial.self l.self
    (group_asks l.initial.self.signing.program.now (heads l.initial.self) (scope l.initial.self) l.initial.self.signing.known.now
    (drop l.f-index l.group))
    (group_asks l.initial.self.signing.program.now (heads l.initial.self) (scope l.initial.self) l.initial.self.signing.known.now l.group)
