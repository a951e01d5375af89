use Rattle.std.proofs.Common.{◌∙◌}
use Rattle.cu_sites.proofs.CountLemmas.{generated_none, generated_two}
use Rattle.cu_sites.proofs.binders.push_generated.Goals as goal

pub returns-in-Variable : goal.returns-in-Variable
returns-in-Variable c t = generated_none t.names c.args.p c.in_ok-node.field-0 c.in-Variable.field-0 c.args.found.now.items (c.in_ok-node.ensures.meaning t.names) c.in-Variable.is

pub returns : goal.returns
returns c t =
    generated_two t.names c.args.p c.in_ok-node.field-0 c.of-place.result c.args.found.now.items c.push.new.self.items c.push-2.new.self.items (c.in_ok-node.ensures.meaning t.names) c.in_default.not-Variable
    (c.of-place.ensures ∙ c.place.ensures.position t.names) c.in_ok-push.ensures.items c.in_ok-push-2.ensures.items
