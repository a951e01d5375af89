use Rattle.std.proofs.Common.{◌∙◌}
use Rattle.cu_translation.specs.Meaning.{binder_meaning}
use Rattle.cu_sites.proofs.WholeLemmas.{recursive_by}
use Rattle.cu_sites.proofs.dependencies.Dependencies.is_recursive.Goals as goal

pub returns : goal.returns
returns c nodes h =
    c.contains.ensures
    ∙ recursive_by nodes c.args.self.now (binder_meaning c.args.x) c.variable.result c.in_ok-found.found.keys c.row.result.now h
    (c.variable.ensures h.binders h.functions h.numbers) c.row.ensures c.in_ok-found.ensures
    (c.captures_are_least.ensures.recursive nodes)
