use Rattle.std.specs.Arc.{arc_value}
use Rattle.cu_frozen.proofs.Stacks.{prefix_are_frozen, popped_graph, popped_fits}
use Rattle.cu_frozen.proofs.frozen.Frozen.pop_small.Goals as goal

pub invariant_of-self : goal.invariant_of-self
invariant_of-self c = prefix_are_frozen arc_value c.self.inside.segments.items c.pop.new.self.items _ c.pop.ensures.items c.self.invariant

pub returns-clause-graph : goal.returns-clause-graph
returns-clause-graph c =
    popped_graph arc_value c.self.inside.segments.items c.pop.new.self.items c.args.self.now c.pop.result c.pop.ensures.items c.self.view_is

pub returns-clause-fits : goal.returns-clause-fits
returns-clause-fits c = popped_fits arc_value c.self.inside.segments.items c.pop.new.self.items c.pop.result c.pop.ensures.items c.self.invariant.laid
