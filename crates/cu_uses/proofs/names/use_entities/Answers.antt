use Rattle.cu_entities.specs.EntityMeaning.{space_meaning}
use Rattle.cu_uses.proofs.ListLemmas.{no_name, used_end, used_prefix}
use Rattle.cu_uses.proofs.names.use_entities.Goals as goal

pub loop-name-preserved : goal.loop-name-preserved
loop-name-preserved c w local after sees all rest =
    c.loop-name.invariant w local after sees all
    (used_prefix w (space_meaning c.args.space) c.args.names.now c.loop-name.name-index c.loop-name.first c.use_entity.new.first after c.loop-name-test.true
    (c.use_entity.ensures w local sees (all c.loop-name.name-index no_name c.loop-name-test.true)) rest)

pub returns : goal.returns
returns c w local sees all =
    c.loop-name.invariant w local c.loop-name.first sees all (used_end w (space_meaning c.args.space) c.args.names.now c.loop-name.name-index c.loop-name.first c.loop-name-test.false)
