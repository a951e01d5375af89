use Rattle.std.proofs.Common.{subst}
use Rattle.std.proofs.lemmas.Result.{IfOk-weaker}
use Rattle.cu_syntax.specs.declared.items.ItemNode.TheVariants as item
use Rattle.cu_syntax.specs.Answer.{item_meaning}
use Rattle.cu_syntax.specs.Declarations.{declaration_meaning}
use Rattle.cu_syntax.specs.Owners.{ItemNodeIsOf}
use Rattle.cu_translation.specs.Rules.{rule_in, rule_in_item}
use Rattle.cu_sites.specs.Inside.RulesFound.{IsRuleIn}
use Rattle.cu_sites.proofs.RuleLemmas.{item_found}
use Rattle.cu_sites.proofs.rules.rule_in_item.Goals as goal

pub returns-in-Declaration : goal.returns-in-Declaration
returns-in-Declaration c t is =
    let of = subst (ItemNodeIsOf t.owner t.names) c.in-Declaration.is (c.in_ok-d.ensures.owned t.owner t.names is) in
    IfOk-weaker c.rule_in.result (IsRuleIn t (rule_in (declaration_meaning t.names c.in-Declaration.d))) (IsRuleIn t (rule_in_item (item_meaning t.names c.args.item.now)))
    (λ found rule. item_found t c.args.item.now c.in_ok-d.field-0 (item.Declaration c.in-Declaration.d) found (c.in_ok-d.ensures.meaning t.names) c.in-Declaration.is rule) (c.rule_in.ensures t of)
