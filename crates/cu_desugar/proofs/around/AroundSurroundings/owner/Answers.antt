use Rattle.cu_desugar.proofs.around.AroundSurroundings.owner.Goals as goal

pub returns : goal.returns
returns c w is = c.owner.ensures w.names w.around.names is.top
