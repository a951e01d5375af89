use Rattle.std.proofs.Common.{refl}
use Rattle.cu_cmd.proofs.SessionLemmas.{if_ok, limited_answers}
use Rattle.cu_cmd.proofs.conversation.Conversation.limit.Goals as goal

pub returns : goal.returns
returns g c =
    if_ok c.say.result (λ turn says.
    limited_answers g.S.Store.content turn c.args.self.now _ c.args.setting _ _ says c.requires.ready
    (c.apply-self.ensures.ranges c.requires.range c.requires.ready.limits) c.workers_after-self.ensures refl c.apply-self.ensures.value refl)
    c.say.ensures
