use Rattle.std.proofs.Common.{ap, arith, subst, sym, ◌∙◌}
use Rattle.cu_sites.specs.Meaning.{group_meaning}
use Rattle.cu_translation.specs.Faults.{rule_faults}
use Rattle.cu_faults.specs.Telling.{Told}
use Rattle.cu_faults.proofs.RuleLemmas.{others_end, others_faults, others_found, others_prefix, place_owned}
use Rattle.cu_faults.proofs.ToldLemmas.{told_as, told_none}
use Rattle.cu_faults.proofs.rules.tell_rules.Goals as goal

pub loop-rule-preserved : goal.loop-rule-preserved
loop-rule-preserved c = record {
  nothing = c.loop-rule.invariant.nothing;
  faults = λ names.
      others_prefix names c.args.group.now.first c.deref-rule-items.result.now c.loop-rule.rule-index c.rule-item.result c.rule-item.is c.loop-rule-test.true
      (omega (arith, c.len.ensures, c.if-len-count.false, c.len-count.ensures))
      ∙ c.loop-rule.invariant.faults names;
}

pub returns-then-len-count : goal.returns-then-len-count
returns-then-len-count c owner names of =
    let g = c.args.group.now in
    let rules = c.deref-rule-items.result.now in
    let i = c.loop-rule.rule-index in
    let x = c.rule-item.result in
    subst (λ f. Told owner f (rule_faults (group_meaning names g)) c.tell.new.self) c.loop-rule.invariant.nothing
    (told_as
    (others_found names g.first rules i x c.rule-item.is c.loop-rule-test.true (λ same. c.if-len-count.true (omega (arith, c.len.ensures, same, c.len-count.ensures)))
    ∙ c.loop-rule.invariant.faults names ∙ ap (others_faults names g.first) c.deref-rule-items.ensures.value)
    (c.tell.ensures owner (place_owned owner names g rules i x of c.deref-rule-items.ensures.value c.loop-rule-test.true c.rule-item.is)))

pub returns : goal.returns
returns c owner names of =
    let g = c.args.group.now in
    subst (λ f. Told owner c.args.first.now (rule_faults (group_meaning names g)) f) (sym c.loop-rule.invariant.nothing)
    (told_as
    (others_end names g.first c.deref-rule-items.result.now c.loop-rule.rule-index c.loop-rule-test.false ∙ c.loop-rule.invariant.faults names
    ∙ ap (others_faults names g.first) c.deref-rule-items.ensures.value)
    (told_none owner c.args.first.now))
