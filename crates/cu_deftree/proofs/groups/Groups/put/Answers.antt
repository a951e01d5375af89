use Rattle.indexmap.specs.IndexMap.{get}
use Rattle.cu_deftree.specs.contracts.patterns.KeyPartialEq.TheImpl.{eq-value}
use Rattle.cu_deftree.proofs.GroupSteps.{put_in}
use Rattle.cu_deftree.proofs.groups.Groups.put.Goals as goal

pub returns : goal.returns
returns c one =
    put_in (get eq-value.it c.args.self.now.indices) (get eq-value.it c.insert.new.self) (get eq-value.it c.insert-2.new.self) c.args.choice one
    c.key-key.result _ c.or_none-indices.result c.push.new.self c.in_ok-before.before c.args.index c.key-key.ensures
    (λ q. c.in_ok-before.ensures.updates.0 q) (λ q. c.in_ok-insert.ensures.updates.0 q) c.in_ok-before.ensures.old c.or_none-indices.ensures
    c.in_ok-push.ensures.items
