use Rattle.std.proofs.Common.{take}
use Rattle.cu_lift.specs.Inside.Capturing.{IsLocal}
use Rattle.cu_lift.proofs.captures.Local.of.Given as goal

abbrev pub invariant-loop-part : goal.invariant-loop-part
invariant-loop-part l = IsLocal (take l.part-index l.parts) l.local
