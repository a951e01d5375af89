use Rattle.cu_flattext.proofs.ScopeLemmas.{body_entered}
use Rattle.cu_flattext.proofs.types.Types.expand.Goals as goal

pub returns : goal.returns
returns c =
    body_entered c.enter.new.self.wording c.args.self.now c.enter.new.self c.args.place c.in_ok-inner.inner c.args.expansion c.args.ts
    c.push.new.self.items c.requires c.in_ok-inner.ensures.wording c.in_ok-inner.ensures.enters c.in_ok-push.ensures.items
