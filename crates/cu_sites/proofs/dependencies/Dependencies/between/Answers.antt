use Rattle.std.proofs.Common.{◌∙◌, ◌++◌, List, ap, ap₂, map, subst}
use Rattle.cu_lex.specs.Located.{Position}
use Rattle.cu_translation.specs.Dependencies.{Definition, definitions}
use Rattle.cu_translation.specs.LocalNames.{Binder}
use Rattle.cu_sites.specs.Depending.{is_defined}
use Rattle.cu_sites.specs.Inside.Defining.{definitions_meaning}
use Rattle.cu_sites.specs.Inside.Needing.{NeededIn, defined_variables, functions_around, used_variables}
use Rattle.cu_sites.specs.Inside.Using.{Usage, usage_of, usages_meaning}
use Rattle.cu_sites.specs.Numbered.{HasNumbers}
use Rattle.cu_sites.proofs.WholeLemmas.{all_around, all_variables, dependencies_are}
use Rattle.cu_sites.proofs.dependencies.Dependencies.between.Goals as goal

pub returns : goal.returns
returns c nodes used defined =
    let numbers : HasNumbers (all_variables nodes) (all_around nodes) c.in_ok-numbers.numbers =
    subst (λ (xs : List Binder). HasNumbers xs (all_around nodes) c.in_ok-numbers.numbers)
    (ap₂ (λ (xs : List Usage) (ys : List Definition). used_variables xs ++ defined_variables ys) used defined)
    (subst
    (λ (ys : List Position).
    HasNumbers (used_variables (usages_meaning c.args.usages.now) ++ defined_variables (definitions_meaning c.args.found.now)) ys c.in_ok-numbers.numbers)
    (ap functions_around used) c.in_ok-numbers.ensures) in
    let needed : NeededIn (all_variables nodes) (all_around nodes) (map usage_of nodes) (definitions nodes) c.in_ok-needs.needs =
    subst (λ (ds : List Definition). NeededIn (all_variables nodes) (all_around nodes) (map usage_of nodes) ds c.in_ok-needs.needs) defined
    (subst (λ (us : List Usage). NeededIn (all_variables nodes) (all_around nodes) us (definitions_meaning c.args.found.now) c.in_ok-needs.needs) used
    (c.in_ok-needs.ensures (all_variables nodes) (all_around nodes) numbers)) in
    let captured = needed.captured_in in
    dependencies_are nodes (record { variables = c.in_ok-variables.variables; numbers = c.in_ok-numbers.numbers; needs = c.in_ok-needs.needs })
    captured.graph needed.captured numbers captured.is_graph captured.captured needed.needed
    (c.in_ok-variables.ensures ∙ ap (map is_defined) defined) (λ b f. c.captures_are_least.ensures.captures nodes b f)
