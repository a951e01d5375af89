use Rattle.std.proofs.Common.{refl}
use Rattle.cu_entities.proofs.SetLemmas.{inserted, kept}
use Rattle.cu_entities.proofs.entity_set.EntitySet.add.Goals as goal

pub returns-in_ok-push : goal.returns-in_ok-push
returns-in_ok-push c names entities differ known is =
    inserted names entities c.args.self.now (record { list = c.push.new.self; seen = c.insert.new.self }) c.args.entity c.of.result c.in_ok-insert.field-0
    differ known is c.of.ensures (λ i. c.in_ok-insert.ensures.updates.0 i) c.in_ok-insert.ensures.added c.if-branch.true c.in_ok-push.ensures.items

pub returns-else-branch : goal.returns-else-branch
returns-else-branch c names entities differ known is =
    kept names entities c.args.self.now (record { list = c.args.self.now.list; seen = c.insert.new.self }) c.args.entity c.of.result c.in_ok-insert.field-0
    differ known is c.of.ensures (λ i. c.in_ok-insert.ensures.updates.0 i) c.in_ok-insert.ensures.added c.if-branch.false refl
