use Rattle.std.proofs.Common.{subst, sym}
use Rattle.cu_kernel.specs.LocalKernel.{LocalKernel}
use Rattle.cu_lift.specs.Lifting.{AreNamed}
use Rattle.cu_lift.proofs.lifting.lift.Goals as goal

pub lift_parts-requires-clause-named : goal.lift_parts-requires-clause-named
lift_parts-requires-clause-named c = subst (λ (program : LocalKernel). AreNamed c.args.names.now program) (sym c.into_parts-parts.ensures.parts) c.requires.named
