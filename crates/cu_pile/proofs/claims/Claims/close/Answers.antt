use Rattle.std.proofs.Common.{ap}
use Rattle.cu_pile.specs.Seats.{items_of}
use Rattle.cu_pile.proofs.Claiming.{closes}
use Rattle.cu_pile.proofs.claims.Claims.close.Goals as goal

pub returns : goal.returns
returns g c n low =
    closes (items_of c.args.self.table.shared.key) c.args.seat.id c.args.self.table.shared.key.workers c.args.seat.me.0 _ _ (ap (λ m. m.0.spent) c.requires.done.0) c.requires.workers c.requires.done.1
    c.close_with.ensures.values.2 n low
