use Rattle.std.proofs.Common.{◌≡◌, ◌∙◌, ap, map}
use Rattle.cu_translation.specs.Dependencies.{definitions}
use Rattle.cu_sites.specs.Inside.Defining.{definitions_meaning}
use Rattle.cu_sites.specs.Inside.Using.{usage_of, usages_meaning}
use Rattle.cu_sites.proofs.dependencies.Dependencies.of.Goals as goal

pub returns : goal.returns
returns c t nodes h =
    let used : usages_meaning c.in_ok-usages.usages.items ≡ map usage_of nodes = c.in_ok-usages.ensures t nodes h in
    let defined : definitions_meaning c.in_ok-definitions.definitions.items ≡ definitions nodes =
    c.in_ok-definitions.ensures t nodes h (ap usages_meaning c.as_slice.ensures.value ∙ used) in
    c.between.ensures nodes (ap usages_meaning c.as_slice-2.ensures.value ∙ used) (ap definitions_meaning c.as_slice-3.ensures.value ∙ defined)
