use Rattle.std.proofs.Common.{map}
use Rattle.std.specs.Vec.Iter.{into_iter_items}
use Rattle.cu_types.proofs.InterfaceLemmas.{kept_more}
use Rattle.cu_types.proofs.inference.kept_types.Goals as goal
use Rattle.cu_types.specs.Inside.Knowing.{kept_type}

pub loop-own-preserved : goal.loop-own-preserved
loop-own-preserved c =
    kept_more (into_iter_items c.loop-own.own-iterator) (into_iter_items c.next.new.self) c.in-Some.own c.loop-own.types.items c.push.new.self.items
    c.in_ok-shared.shared (map kept_type c.args.known.items) c.in-Some.ensures.steps.0 c.in_ok-shared.ensures c.in_ok-push.ensures.items
    c.loop-own.invariant
