use Rattle.std.specs.Arc.{arc_value}
use Rattle.cu_frozen.proofs.Stacks.{pushed_are_frozen, pushed_graph}
use Rattle.cu_frozen.proofs.frozen.Frozen.push.Goals as goal

pub invariant_of-self-in_ok-push : goal.invariant_of-self-in_ok-push
invariant_of-self-in_ok-push c =
    pushed_are_frozen arc_value c.self.inside.segments.items c.push.new.self.items c.in_ok-new.field-0 c.args.self.now c.args.segment
    c.in_ok-push.ensures.items c.in_ok-new.ensures.ok c.self.view_is c.self.invariant c.requires.fits c.requires.room

pub returns-in_ok-push : goal.returns-in_ok-push
returns-in_ok-push c =
    pushed_graph arc_value c.self.inside.segments.items c.push.new.self.items c.in_ok-new.field-0 c.args.self.now c.args.segment
    c.in_ok-push.ensures.items c.in_ok-new.ensures.ok c.self.view_is
