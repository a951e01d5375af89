use Rattle.samples.proofs.programs.lowered.Goals as goal

pub lower-requires : goal.lower-requires
lower-requires c = c.has_operations.ensures.0 c.if-has_operations.true
