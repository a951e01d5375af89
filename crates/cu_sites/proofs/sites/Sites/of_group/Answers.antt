use Rattle.std.proofs.Common.{List, ◌<◌, ◌≤◌, ◌∙◌, ap, get_or, length, subst}
use Rattle.cu_sites.specs.declared.rules.Rule.{Rule}
use Rattle.cu_locals.specs.Text.{text}
use Rattle.cu_sites.proofs.TopLemmas.{ruled_end, ruled_more, ruled_start}
use Rattle.cu_sites.proofs.sites.Sites.of_group.Goals as goal

pub loop-rule-init : goal.loop-rule-init
loop-rule-init c t of = ruled_start t c.args.group.now c.new-found.result c.top_rule.new.self c.new-found.ensures (c.in_ok-top_rule.ensures t of.first)

pub loop-rule-preserved : goal.loop-rule-preserved
loop-rule-preserved c t of =
    let others = c.deref-rule-items.ensures.value in
    ruled_more t c.args.group.now c.loop-rule.rule-index c.rule-item.result c.loop-rule.found c.top_rule-in-loop-rule.new.self
    (c.rule-item.is ∙ ap (λ (rs : List Rule). get_or rs c.loop-rule.rule-index c.rule-item.result) others)
    (subst (λ (rs : List Rule). c.loop-rule.rule-index < length rs) others c.loop-rule-test.true) of (c.loop-rule.invariant t of)
    (c.in_ok-top_rule-2.ensures t)

pub returns : goal.returns
returns c owner names differ of =
    let t = text owner names differ in
    ruled_end t c.args.group.now c.loop-rule.rule-index c.loop-rule.found
    (subst (λ (rs : List Rule). length rs ≤ c.loop-rule.rule-index) c.deref-rule-items.ensures.value c.loop-rule-test.false) (c.loop-rule.invariant t of)
