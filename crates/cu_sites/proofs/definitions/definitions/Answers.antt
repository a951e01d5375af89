use Rattle.std.proofs.Common.{◌∙◌, List, ap, arith, drop, get_or, ◌+◌}
use Rattle.cu_sites.specs.declared.sites.Node.{Node}
use Rattle.cu_sites.specs.Inside.Defining.{definitions_meaning}
use Rattle.cu_sites.proofs.InsideLemmas.{definitions_end, definitions_next, inside_usages}
use Rattle.cu_sites.proofs.definitions.definitions.Goals as goal

pub loop-place-init : goal.loop-place-init
loop-place-init c t nodes stands used = ap definitions_meaning c.new-found.ensures.items

pub loop-place-preserved : goal.loop-place-preserved
loop-place-preserved c t nodes stands used =
    let s = c.args.sites.now in
    let i = c.loop-place.place in
    let x = c.node-item.result in
    definitions_next t s.entries.items s.blocks.items s.nodes.items nodes i x c.loop-place.found.items c.push_definitions.new.found.items
    (c.node-item.is ∙ ap (λ (ys : List Node). get_or ys i x) c.deref-node-items.ensures.value) (omega arith) stands.are
    (λ n is.
    c.in_ok-push_definitions.ensures t s.entries.items s.blocks.items n (drop (i + 1) nodes) is
    (inside_usages t s.entries.items s.blocks.items x n i nodes c.args.usages.now c.after-inside.result.now is used c.after-inside.ensures))
    (c.loop-place.invariant t nodes stands used)

pub returns : goal.returns
returns c t nodes stands used =
    let s = c.args.sites.now in
    definitions_end t s.entries.items s.blocks.items s.nodes.items nodes c.loop-place.place c.loop-place.found.items (omega arith) stands.are
    (c.loop-place.invariant t nodes stands used)
