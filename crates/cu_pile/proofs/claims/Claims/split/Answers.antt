use Rattle.std.proofs.Common.{ap, arith}
use Rattle.cu_pile.specs.Seats.{items_of}
use Rattle.cu_pile.proofs.Claiming.{splits_with}
use Rattle.cu_pile.proofs.claims.Claims.split.Goals as goal

pub split_seat-requires : goal.split_seat-requires
split_seat-requires g c =
    let one = c.args.self.now.one_word in let seat = c.args.seat.now in (
      c.requires.table,
      omega (arith, one),
      splits_with (items_of c.args.self.now.table.shared.key) seat.id seat.me.0.workers c.args.self.now.table.shared.key.workers seat.me.0 (ap (λ m. m.0) c.requires.fresh) c.requires.workers,
    )
