use Rattle.std.proofs.Common.{◌∙◌, arith}
use Rattle.cu_types.proofs.Joins.{class_more}
use Rattle.cu_types.proofs.classes.Classes.representatives.Goals as goal

pub loop-node-preserved : goal.loop-node-preserved
loop-node-preserved c = record {
  sized = c.find-root.ensures.sized ∙ c.loop-node.invariant.sized;
  forest = c.find-root.ensures.forest;
  count = omega (arith, c.in_ok-push.ensures.len, c.loop-node.found.ok.0, c.push.new.self.ok.0);
  class = λ class r.
      let before = c.loop-node.invariant.class class r in
      let found = c.find-root.ensures.class class before.0 in (
        found.0,
        class_more c.loop-node.found.items c.push.new.self.items c.loop-node.node c.find-root.result class
            c.loop-node.invariant.count before.1 found.1 c.in_ok-push.ensures.items,
      );
}
