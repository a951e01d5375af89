use Rattle.std.proofs.Common.{◌-◌, ◌∙◌, arith}
use Rattle.cu_machine.specs.Graph.{node_at}
use Rattle.cu_frozen.proofs.Overlays.{changes_more, node_again}
use Rattle.cu_frozen.proofs.segment.Segment.follow_changes.Goals as goal

pub loop-left-preserved : goal.loop-left-preserved
loop-left-preserved c = record {
  within = omega arith;
  amended =
      changes_more c.args.self.now c.loop-left.self c.put.new.self c.next.inside.changed.keys c.next.inside.changes c.loop-left.left (c.loop-left.left - 1)
      c.index-id.result.now (record { kind = c.node-node.result.kind; args = c.node-node.result.args.now }) (omega arith) c.loop-left.invariant.within
      c.next.invariant.whole.paired c.index-id.ensures
      (node_again c.node-node.result.kind c.node-node.result.args.now (node_at c.next.inside.changes (c.loop-left.left - 1)) c.node-node.ensures.kind c.node-node.ensures.args)
      c.loop-left.invariant.amended c.in_ok-put.ensures.ok;
  same = c.in_ok-put.ensures.added ∙ c.loop-left.invariant.same;
}
