use Rattle.std.proofs.Common.{arith}
use Rattle.cu_sites.specs.Inside.Relating.{pair_to}
use Rattle.cu_sites.proofs.RelationLemmas.{gains_end, gains_next}
use Rattle.cu_sites.proofs.relations.Relation.add_to_all.Goals as goal

pub loop-from-init : goal.loop-from-init
loop-from-init c end h = h

pub loop-from-preserved : goal.loop-from-preserved
loop-from-preserved c end h =
    c.loop-from.invariant end
    (gains_next (pair_to c.args.to) c.args.froms.now c.loop-from.from-index c.loop-from.self c.add.new.self end (omega arith) c.in_ok-add.ensures h)

pub returns : goal.returns
returns c = c.loop-from.invariant c.loop-from.self (gains_end (pair_to c.args.to) c.args.froms.now c.loop-from.from-index c.loop-from.self (omega arith))
