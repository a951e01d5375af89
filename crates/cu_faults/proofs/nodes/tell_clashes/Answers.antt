use Rattle.std.proofs.Common.{subst, sym}
use Rattle.cu_sites.specs.Meaning.{AreNodes}
use Rattle.cu_translation.specs.Faults.{clashes_of}
use Rattle.cu_faults.proofs.NodeLemmas.{closed, node_end, node_prefix, opened}
use Rattle.cu_faults.proofs.nodes.tell_clashes.Goals as goal

pub loop-node-init : goal.loop-node-init
loop-node-init g c t a nodes tells are = (nodes, are, λ after rest. rest)

pub loop-node-preserved : goal.loop-node-preserved
loop-node-preserved g c t a nodes tells are =
    let sites = c.args.sites.now in
    let before = c.loop-node.invariant t a nodes tells are in
    let o = opened t sites.entries.items sites.blocks.items c.nodes-node-items.result.now c.loop-node.node-index c.node-item.result before.0 c.node-item.is c.loop-node-test.true before.1 in (
      o.after,
      o.are,
      λ after rest. before.2 after
          (node_prefix t.owner (clashes_of a.names) before.0 o.node o.after c.loop-node.first c.clashes_at.new.first after o.left_is (c.in_ok-clashes_at.ensures t a o.node tells o.is.spot o.is.site) rest),
    )

pub returns : goal.returns
returns g c t a nodes tells stands =
    let es = c.args.sites.now.entries.items in
    let bs = c.args.sites.now.blocks.items in
    let items = c.nodes-node-items.result.now in
    let before = c.loop-node.invariant t a nodes tells (subst (λ xs. AreNodes t es bs xs nodes) (sym c.nodes-node-items.ensures) stands.are) in
    before.2 c.loop-node.first
    (node_end t.owner (clashes_of a.names) before.0 c.loop-node.first (closed t es bs items c.loop-node.node-index before.0 c.loop-node-test.false before.1))
