use Rattle.std.proofs.Common.{subst, sym, ◌∙◌}
use Rattle.std.proofs.lemmas.List.Elements.{All-get_or}
use Rattle.cu_syntax.specs.Declarations.{declaration_meaning}
use Rattle.cu_syntax.specs.Owners.{DeclarationIsOf}
use Rattle.cu_translation.specs.Rules.{rule_in}
use Rattle.cu_sites.specs.Inside.RulesFound.{IsRuleIn}
use Rattle.cu_sites.proofs.RuleLemmas.{is_false, is_true, led_more, led_none, led_other, led_past, led_start}
use Rattle.cu_sites.proofs.grouping.leading.Goals as goal

pub loop-d-init : goal.loop-d-init
loop-d-init c t named all = led_start t c.args.name c.args.ds.now c.new-found.result.items c.new-found.ensures.items

pub loop-d-preserved : goal.loop-d-preserved
loop-d-preserved c t named all =
    let of = subst (DeclarationIsOf t.owner t.names) (sym c.d-item.is) (All-get_or (DeclarationIsOf t.owner t.names) c.args.ds.now c.loop-d.d-index c.d-item.result c.loop-d-test.true all) in
    let found = subst (IsRuleIn t (rule_in (declaration_meaning t.names c.d-item.result))) c.in-Some.is (c.in_ok-rule.ensures t of) in
    led_more t c.args.name c.args.ds.now c.loop-d.d-index c.d-item.result c.in-Some.rule c.loop-d.found.items c.push.new.self.items c.d-item.is c.loop-d-test.true (c.loop-d.invariant t named all) found
    (is_true _ (sym c.ne.ensures ∙ c.if-ne.false)) named c.in_ok-push.ensures.items

pub returns-in_default : goal.returns-in_default
returns-in_default c t named all =
    let of = subst (DeclarationIsOf t.owner t.names) (sym c.d-item.is) (All-get_or (DeclarationIsOf t.owner t.names) c.args.ds.now c.loop-d.d-index c.d-item.result c.loop-d-test.true all) in
    led_none t c.args.name c.args.ds.now c.loop-d.d-index c.d-item.result c.loop-d.found.items c.d-item.is c.loop-d-test.true (c.loop-d.invariant t named all)
    (subst (IsRuleIn t (rule_in (declaration_meaning t.names c.d-item.result))) c.in_default.is (c.in_ok-rule.ensures t of))

pub returns-then-ne : goal.returns-then-ne
returns-then-ne c t named all =
    let of = subst (DeclarationIsOf t.owner t.names) (sym c.d-item.is) (All-get_or (DeclarationIsOf t.owner t.names) c.args.ds.now c.loop-d.d-index c.d-item.result c.loop-d-test.true all) in
    let found = subst (IsRuleIn t (rule_in (declaration_meaning t.names c.d-item.result))) c.in-Some.is (c.in_ok-rule.ensures t of) in
    led_other t c.args.name c.args.ds.now c.loop-d.d-index c.d-item.result c.in-Some.rule c.loop-d.found.items c.d-item.is c.loop-d-test.true (c.loop-d.invariant t named all) found
    (is_false _ (sym c.ne.ensures ∙ c.if-ne.true)) named

pub returns : goal.returns
returns c t named all = led_past t c.args.name c.args.ds.now c.loop-d.d-index c.loop-d.found.items c.loop-d-test.false (c.loop-d.invariant t named all)
