use Rattle.std.proofs.Common.{arith}
use Rattle.cu_sites.proofs.NoteLemmas.{graph_end, graph_next}
use Rattle.cu_sites.proofs.captures.Graph.of.Goals as goal

pub loop-usage-init : goal.loop-usage-init
loop-usage-init c binders functions h = c.in_ok-graph.ensures binders functions h

pub loop-usage-preserved : goal.loop-usage-preserved
loop-usage-preserved c binders functions h =
    graph_next binders functions c.args.usages.now c.loop-usage.usage-index c.usage-item.result c.loop-usage.graph c.note.new.self c.usage-item.is
    (omega arith) (c.loop-usage.invariant binders functions h) (c.in_ok-note.ensures binders functions h)

pub returns : goal.returns
returns c binders functions h =
    graph_end binders functions c.args.usages.now c.loop-usage.usage-index c.loop-usage.graph (omega arith) (c.loop-usage.invariant binders functions h)
