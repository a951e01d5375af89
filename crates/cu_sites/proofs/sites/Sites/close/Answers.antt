use Rattle.std.proofs.Common.{◌≡◌, arith, length, refl}
use Rattle.cu_sites.proofs.SpotLemmas.{closes_at, closes_nothing}
use Rattle.cu_sites.proofs.sites.Sites.close.Goals as goal

pub returns-then-definition-count : goal.returns-then-definition-count
returns-then-definition-count c =
    let counted : c.len-count.result ≡ length c.args.self.now.nodes.items = omega (arith, c.args.self.now.nodes.ok.0, c.len-count.ensures) in
    closes_at c.args.definition c.len-count.result c.args.self.now _ c.index_mut.result.now refl refl counted c.index_mut.ensures.value refl

pub returns-else-definition-count : goal.returns-else-definition-count
returns-else-definition-count c =
    let counted : c.len-count.result ≡ length c.args.self.now.nodes.items = omega (arith, c.args.self.now.nodes.ok.0, c.len-count.ensures) in
    closes_nothing c.args.definition c.len-count.result c.args.self.now counted c.if-definition-count.false
