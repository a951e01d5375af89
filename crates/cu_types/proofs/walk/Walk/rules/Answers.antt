use Rattle.std.proofs.Common.{map}
use Rattle.cu_kernel.specs.KernelOf.{rule_meaning}
use Rattle.cu_types.proofs.RuleLemmas.{rules_end, rules_step, walking_starts}
use Rattle.cu_types.specs.Inside.Members.{rules_between}
use Rattle.cu_types.specs.Inside.Walking.{heads, scope}
use Rattle.cu_types.proofs.walk.Walk.rules.Goals as goal

pub loop-rule-init : goal.loop-rule-init
loop-rule-init c =
    walking_starts c.args.self.now
    (rules_between (heads c.args.self.now) (scope c.args.self.now) c.args.first c.args.right (map rule_meaning c.args.rules.now)) c.requires

pub rule-requires : goal.rule-requires
rule-requires c = c.loop-rule.invariant.reader

pub loop-rule-preserved : goal.loop-rule-preserved
loop-rule-preserved c =
    rules_step c.args.self.now c.loop-rule.self c.rule.new.self
    (rules_between (heads c.args.self.now) (scope c.args.self.now) c.args.first c.args.right (map rule_meaning c.args.rules.now))
    c.args.rules.now c.loop-rule.rule-index c.args.first c.args.right c.rule-item.result c.loop-rule-test.true c.rule-item.is
    c.loop-rule.invariant c.in_ok-rule.ensures

pub returns : goal.returns
returns c =
    rules_end c.args.self.now c.loop-rule.self
    (rules_between (heads c.args.self.now) (scope c.args.self.now) c.args.first c.args.right (map rule_meaning c.args.rules.now))
    c.args.rules.now c.loop-rule.rule-index c.args.first c.args.right c.loop-rule-test.false c.loop-rule.invariant
