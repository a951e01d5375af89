use Rattle.std.proofs.Common.{ap, length, ◌∙◌}
use Rattle.cu_flattext.specs.declared.wording.Wording.{Wording}
use Rattle.cu_flattext.proofs.RuleLemmas.{rule_left}
use Rattle.cu_flattext.proofs.expressions.Expressions.of_rule.Goals as goal

pub returns : goal.returns
returns c =
    let same = c.in_ok-bind_all.ensures.wording ∙ c.none-made.ensures.wording in
    rule_left c.args.wording c.none-made.result c.bind_all.new.self c.push.new.self.items c.args.parameters.now c.args.e c.expr_count-depth.result
    c.none-made.ensures.tasks c.none-made.ensures.numbers c.none-made.ensures.next same c.in_ok-bind_all.ensures.numbers c.in_ok-bind_all.ensures.next
    c.in_ok-bind_all.ensures.tasks (c.expr_count-depth.ensures ∙ ap (λ (w : Wording). length w.flat.now.expressions) same) c.in_ok-push.ensures.items
