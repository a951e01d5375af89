use Rattle.cu_uses.proofs.FoundLemmas.{on_ok}
use Rattle.cu_sites.proofs.WalkLemmas.{use_written}
use Rattle.cu_sites.proofs.sites.Sites.use_of.Goals as goal

pub returns : goal.returns
returns c t spot at of all =
    on_ok c.push.result (λ pushed. use_written t c.args.self.now c.push.new.self c.args.at c.args.name c.in_ok-arguments.arguments c.args.arguments.now spot pushed c.in_ok-arguments.ensures.items at of all) c.push.ensures
