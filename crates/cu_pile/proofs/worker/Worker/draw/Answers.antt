use Rattle.std.proofs.Common.{ap, ◌∙◌, arith}
use Rattle.cu_pile.specs.Seats.{items_of}
use Rattle.cu_pile.proofs.Claiming.{draws, holds_drawn}
use Rattle.cu_pile.proofs.worker.Worker.draw.Goals as goal

pub fetch_add-requires : goal.fetch_add-requires
fetch_add-requires g c =
    let worker = c.args.self.now in let claims = worker.claims.now in let one = claims.one_word in let k = worker.knows in (
      worker.at_table,
      omega (arith, one),
      draws (items_of claims.table.shared.key) claims.table.shared.table_id.slots worker.seat.id claims.table.shared.key.workers worker.seat.me claims.few_items claims.few_workers k worker.unspent
          (rw (← k) worker.holds) (rw (← k) c.requires),
    )

pub invariant_of-self : goal.invariant_of-self
invariant_of-self g c =
    let worker = c.args.self.now in let did = c.fetch_add.ensures in record {
      at_table = did.0 ∙ worker.at_table;
      knows = ap (λ v. v.items) did.2.0 ∙ worker.knows;
      unspent = ap (λ v. v.spent) did.2.0 ∙ worker.unspent;
      holds = holds_drawn worker.seat.me.0 c.fetch_add.new.seat.me.0 c.fetch_add.new.seat.me.1 c.fetch_add.result did.2.0 did.2.1;
    }
