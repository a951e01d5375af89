use Rattle.std.proofs.Common.{ap}
use Rattle.cu_pile.proofs.Claiming.{opens_with}
use Rattle.cu_pile.proofs.claims.Claims.open.Goals as goal

pub new-requires : goal.new-requires
new-requires g c = opens_with c.args.items.items c.of.result.value.items c.in_ok-slots.slots.items c.args.workers (ap (λ v. v.items) c.of.ensures) c.in_ok-slots.ensures c.requires.workers.0
