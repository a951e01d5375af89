use Rattle.std.proofs.Common.{arith, refl}
use Rattle.cu_sites.proofs.SpotLemmas.{opens_add, scope_within}
use Rattle.cu_sites.proofs.sites.Sites.add.Goals as goal

pub returns : goal.returns
returns c t scope known is =
    opens_add t c.args.self.now (record { nodes = c.args.self.now.nodes; entries = c.push.new.self; blocks = c.args.self.now.blocks }) c.args.entry c.args.around c.len.result scope
    refl refl c.in_ok-push.ensures.items (omega (arith, c.push.new.self.ok.0, c.len.ensures)) known (scope_within t c.args.self.now.entries.items c.args.around scope is) is
