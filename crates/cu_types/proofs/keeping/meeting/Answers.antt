use Rattle.cu_types.proofs.KeepingLemmas.{meeting_end, meeting_may, meeting_more, meeting_start}
use Rattle.cu_types.proofs.keeping.meeting.Goals as goal

pub loop-node-init : goal.loop-node-init
loop-node-init c = meeting_start c.args.variables.now c.args.types.now c.in_ok-found.found.items c.in_ok-found.ensures.items

pub node_meets-is_met-requires : goal.node_meets-is_met-requires
node_meets-is_met-requires c =
    meeting_may c.args.variables.now c.args.types.now c.loop-node.node-index c.node-item.result c.as_slice.result.now
    c.loop-node.found.items c.requires c.loop-node-test.true c.node-item.is c.as_slice.ensures.value c.loop-node.invariant

pub loop-node-preserved : goal.loop-node-preserved
loop-node-preserved c =
    meeting_more c.args.variables.now c.args.types.now c.loop-node.node-index c.node-item.result c.as_slice.result.now
    c.loop-node.found.items c.push.new.self.items c.node_meets-is_met.result c.requires c.loop-node-test.true c.node-item.is
    c.as_slice.ensures.value c.loop-node.invariant c.node_meets-is_met.ensures c.in_ok-push.ensures.items

pub returns : goal.returns
returns c =
    meeting_end c.args.variables.now c.args.types.now c.loop-node.node-index c.loop-node.found.items c.loop-node-test.false c.loop-node.invariant
