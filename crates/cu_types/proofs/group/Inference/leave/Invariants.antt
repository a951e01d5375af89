use Rattle.std.proofs.Common.{◌≡◌, drop}
use Rattle.cu_types.proofs.group.Inference.leave.Given as goal
use Rattle.cu_types.specs.Inside.Grouping.{Stays, left}
use Rattle.cu_types.specs.Meaning.{subst_of}

-- the functions that are left, with their types, give what all give
abbrev pub invariant-loop-f : goal.invariant-loop-f
invariant-loop-f l = record {
  known : left (subst_of l.initial.subst) (drop l.f-index l.group) l.known ≡ left (subst_of l.initial.subst) l.group l.initial.known;
  stays : Stays l.initial.subst l.subst;
}
