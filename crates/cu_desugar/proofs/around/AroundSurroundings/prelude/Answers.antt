use Rattle.cu_desugar.proofs.around.AroundSurroundings.prelude.Goals as goal

pub returns : goal.returns
returns c w is = c.prelude.ensures w.names w.around.names is.top
