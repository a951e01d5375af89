use Rattle.std.proofs.Common.{ap, arith}
use Rattle.cu_pile.specs.Seats.{items_of}
use Rattle.cu_pile.proofs.Claiming.{joins_with, both_done}
use Rattle.cu_pile.proofs.claims.Claims.join.Goals as goal

pub join_seat-requires : goal.join_seat-requires
join_seat-requires g c =
    let one = c.args.self.now.one_word in let seat = c.args.seat.now in let other = c.args.other in (
      c.requires.tables.0,
      c.requires.tables.1,
      ap (λ m. m.1) c.requires.other.0,
      omega (arith, one),
      joins_with (items_of c.args.self.now.table.shared.key) seat.id other.id c.args.self.now.table.shared.key.workers seat.me other.me c.requires.one c.requires.other,
    )

pub returns-clause-done : goal.returns-clause-done
returns-clause-done g c = both_done (items_of c.args.self.now.table.shared.key) c.args.seat.now.me c.args.other.me c.join_seat.new.seat.me c.requires.one c.requires.other c.join_seat.ensures.2
