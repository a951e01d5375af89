use Rattle.std.proofs.Common.{arith}
use Rattle.cu_sites.specs.Inside.Relating.{pair}
use Rattle.cu_sites.proofs.RelationLemmas.{gains_end, gains_next}
use Rattle.cu_sites.proofs.relations.Relation.add_row.Goals as goal

pub loop-to-init : goal.loop-to-init
loop-to-init c end h = h

pub loop-to-preserved : goal.loop-to-preserved
loop-to-preserved c end h =
    c.loop-to.invariant end
    (gains_next (pair c.args.from) c.args.row.now c.loop-to.to-index c.loop-to.self c.add.new.self end (omega arith) c.in_ok-add.ensures h)

pub returns : goal.returns
returns c = c.loop-to.invariant c.loop-to.self (gains_end (pair c.args.from) c.args.row.now c.loop-to.to-index c.loop-to.self (omega arith))
