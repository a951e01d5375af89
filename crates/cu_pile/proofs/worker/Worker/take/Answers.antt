use Rattle.std.proofs.Common.{ap, ◌∙◌}
use Rattle.cu_pile.proofs.Claiming.{slot_there, gives_some, taken_holds}
use Rattle.cu_pile.proofs.worker.Worker.take.Goals as goal

pub exchange-slot-requires : goal.exchange-slot-requires
exchange-slot-requires g c = let worker = c.args.self.now in (worker.at_table, slot_there worker.seat.me.0.items c.args.number worker.seat.me.1 c.requires.item c.requires.slot)

pub unwrap-requires : goal.unwrap-requires
unwrap-requires g c =
    let worker = c.args.self.now in gives_some worker.seat.me.0.items c.args.number worker.seat.me.1 c.exchange-slot.result c.requires.item c.requires.slot c.exchange-slot.ensures.2

pub invariant_of-self : goal.invariant_of-self
invariant_of-self g c =
    let worker = c.args.self.now in let did = c.exchange-slot.ensures in record {
      at_table = did.0 ∙ worker.at_table;
      knows = ap (λ m. m.0.items) did.3 ∙ worker.knows;
      unspent = ap (λ m. m.0.spent) did.3 ∙ worker.unspent;
      holds = taken_holds worker.seat.me.0 worker.seat.me.1 c.args.number c.exchange-slot.result c.exchange-slot.new.seat.me worker.holds did.2 did.3;
    }
