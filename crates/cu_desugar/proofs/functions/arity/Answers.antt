use Rattle.cu_desugar.proofs.functions.arity.Goals as goal

pub returns-in-Ok : goal.returns-in-Ok
returns-in-Ok c = c.in-Ok.ensures.1
