use Rattle.std.proofs.Common.{Some, refl, subst}
use Rattle.cu_syntax.specs.declared.declarations.DeclarationNode.TheVariants as declaration
use Rattle.cu_syntax.specs.Owners.{DeclarationNodeIsOf}
use Rattle.cu_sites.proofs.RuleLemmas.{rule_found}
use Rattle.cu_sites.proofs.rules.rule_in.Goals as goal

pub returns-in-FunctionRule : goal.returns-in-FunctionRule
returns-in-FunctionRule c t is =
    let of = subst (DeclarationNodeIsOf t.owner t.names) c.in-FunctionRule.is (c.in_ok-place.ensures.owned t.owner t.names is) in
    rule_found t c.args.d c.in_ok-place.field-0 (declaration.FunctionRule c.in-FunctionRule.place c.in-FunctionRule.name c.in-FunctionRule.parameters c.in-FunctionRule.right)
    (Some (record { place = c.in-FunctionRule.place; name = c.in-FunctionRule.name; parameters = c.in-FunctionRule.parameters; right = c.in-FunctionRule.right }))
    (c.in_ok-place.ensures.meaning t.names) c.in-FunctionRule.is refl (record { place = of.0; name = of.1; parameters = of.2; right = of.3 })
