use Rattle.std.proofs.Common.{◌≡◌, drop, length}
use Rattle.cu_types.proofs.group.Inference.enter.Given as goal
use Rattle.cu_types.specs.Inside.Grouping.{end_from, entered}

-- the functions that are left, entered, give what all give
abbrev pub invariant-loop-f : goal.invariant-loop-f
invariant-loop-f l = record {
  known : entered l.self.program.now l.next (drop l.f-index l.group) l.known ≡ entered l.self.program.now 0 l.group l.initial.known;
  end : end_from l.self.program.now l.next (drop l.f-index l.group) ≡ end_from l.self.program.now 0 l.group;
  sized : length l.known ≡ length l.initial.known;
}
