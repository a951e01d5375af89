use Rattle.std.proofs.Common.{List, [], refl, subst, sym}
use Rattle.cu_translation.specs.declared.position.Position.{Position}
use Rattle.cu_translation.specs.Numbering.{all_functions}
use Rattle.cu_sites.specs.declared.sites.Node.{Node}
use Rattle.cu_sites.specs.Inside.Counting.{Lists}
use Rattle.cu_sites.specs.Meaning.{AreNodes}
use Rattle.cu_sites.proofs.CountLemmas.{lists_all, functions_end, functions_prefix, node_at}
use Rattle.cu_sites.proofs.binders.local_functions.Goals as goal

pub loop-node-init : goal.loop-node-init
loop-node-init c t nodes after stands rest = subst (λ (xs : List Position). Lists xs (all_functions nodes) after) c.new-found.ensures.items rest

pub loop-node-preserved : goal.loop-node-preserved
loop-node-preserved c t nodes after stands rest =
    let s = c.args.sites.now in
    let xs = c.deref-node-items.result.now in
    let are = subst (λ (found : List Node). AreNodes t s.entries.items s.blocks.items found nodes) (sym c.deref-node-items.ensures.value) stands.are in
    let at = node_at t s.entries.items s.blocks.items xs nodes c.loop-node.node-index c.node-item.result c.node-item.is c.loop-node-test.true are in
    c.loop-node.invariant t nodes after stands
    (functions_prefix t s.entries.items s.blocks.items xs nodes c.loop-node.node-index c.node-item.result c.loop-node.found.items c.push_functions.new.found.items after at
    (c.in_ok-push_functions.ensures t s.blocks.items at.n.site at.is.site) rest)

pub returns : goal.returns
returns c t nodes stands =
    let s = c.args.sites.now in
    let xs = c.deref-node-items.result.now in
    let are = subst (λ (found : List Node). AreNodes t s.entries.items s.blocks.items found nodes) (sym c.deref-node-items.ensures.value) stands.are in
    lists_all [] c.loop-node.found.items (all_functions nodes) refl
    (c.loop-node.invariant t nodes c.loop-node.found.items stands (functions_end t s.entries.items s.blocks.items xs nodes c.loop-node.node-index c.loop-node.found.items c.loop-node-test.false are))
