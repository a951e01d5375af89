-- The variable's last binding among those that are left counts, and else the last one that was met.
use Rattle.std.proofs.Common.{◌≡◌, drop}
use Rattle.cu_machine.specs.Build.{place_in}
use Rattle.cu_step.proofs.Builds.{later}
use Rattle.cu_step.proofs.build.place_in.Given as goal

abbrev pub invariant-loop-y : goal.invariant-loop-y
invariant-loop-y l = later (place_in (drop l.y-index l.scope) l.x) l.place ≡ place_in l.scope l.x
