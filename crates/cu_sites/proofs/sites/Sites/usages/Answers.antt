use Rattle.std.proofs.Common.{◌∙◌, List, ap, arith, get_or}
use Rattle.cu_sites.specs.declared.sites.Node.{Node}
use Rattle.cu_sites.specs.Inside.Using.{usages_meaning}
use Rattle.cu_sites.proofs.UseLemmas.{usages_end, usages_next}
use Rattle.cu_sites.proofs.sites.Sites.usages.Goals as goal

pub loop-node-init : goal.loop-node-init
loop-node-init c t nodes stands = ap usages_meaning c.new-found.ensures.items

pub loop-node-preserved : goal.loop-node-preserved
loop-node-preserved c t nodes stands =
    let xs = c.args.self.now.nodes.items in
    let i = c.loop-node.node-index in
    let x = c.node-item.result in
    usages_next t c.args.self.now.entries.items c.args.self.now.blocks.items xs nodes i x c.loop-node.found.items c.push.new.self.items c.in_ok-usage.field-0
    (c.node-item.is ∙ ap (λ (ys : List Node). get_or ys i x) c.deref-node-items.ensures.value) (omega arith) stands.are c.in_ok-push.ensures.items
    (λ n others is. c.in_ok-usage.ensures t n others is) (c.loop-node.invariant t nodes stands)

pub returns : goal.returns
returns c t nodes stands =
    usages_end t c.args.self.now.entries.items c.args.self.now.blocks.items c.args.self.now.nodes.items nodes c.loop-node.node-index c.loop-node.found.items
    (omega arith) stands.are (c.loop-node.invariant t nodes stands)
