use Rattle.std.proofs.Common.{◌≡◌, map, take}
use Rattle.cu_types.proofs.cycle.Member.put_into.Given as goal
use Rattle.cu_types.specs.Inside.Cycles.{put_in}

abbrev pub invariant-loop-argument : goal.invariant-loop-argument
invariant-loop-argument l =
    l.found.items ≡ map (put_in l.classes l.self.class l.self.place) (take l.argument-index l.arguments)
