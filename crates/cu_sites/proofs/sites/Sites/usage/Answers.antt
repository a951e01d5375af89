use Rattle.std.proofs.Common.{refl}
use Rattle.cu_sites.specs.declared.uses.Usage.{Usage}
use Rattle.cu_sites.proofs.UseLemmas.{usage_made}
use Rattle.cu_sites.proofs.sites.Sites.usage.Goals as goal

pub returns : goal.returns
returns c t n others is =
    let u : Usage = record {
      function = c.args.node.now.spot.function;
      depth = c.args.node.now.spot.depth;
      used = c.push_used.new.found;
      declared = c.push_binders.new.found;
    } in
    usage_made t c.args.self.now.entries.items c.args.self.now.blocks.items c.args.node.now n others u c.new-used.result.items c.new-declared.result.items is
    refl refl c.new-used.ensures.items c.new-declared.ensures.items (c.in_ok-push_used.ensures t n others is)
    (c.in_ok-push_binders.ensures t c.args.self.now.blocks.items n.site is.site)
