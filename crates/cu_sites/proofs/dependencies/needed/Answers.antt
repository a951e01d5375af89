use Rattle.cu_sites.specs.Inside.Defining.{definitions_meaning}
use Rattle.cu_sites.specs.Inside.Using.{usages_meaning}
use Rattle.cu_sites.proofs.WholeLemmas.{needed_in}
use Rattle.cu_sites.proofs.dependencies.needed.Goals as goal

pub returns : goal.returns
returns c binders functions h =
    needed_in binders functions (usages_meaning c.args.usages.now) (definitions_meaning c.args.definitions.now) c.in_ok-captured.captured c.needs.result
    (c.in_ok-captured.ensures binders functions h) (c.needs.ensures binders functions h)
