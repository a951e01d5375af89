use Rattle.cu_sites.proofs.WholeLemmas.{captured_in}
use Rattle.cu_sites.proofs.dependencies.captured.Goals as goal

pub returns : goal.returns
returns c binders functions h =
    captured_in binders functions _ c.in_ok-graph.graph c.captured.result (c.in_ok-graph.ensures binders functions h) (c.captured.ensures binders functions h)
