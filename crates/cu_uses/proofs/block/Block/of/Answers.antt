use Rattle.cu_syntax.specs.Owners.{DeclarationIsOf}
use Rattle.cu_uses.specs.Inside.Blocks.{block_declares, block_signs}
use Rattle.cu_uses.proofs.BlockLemmas.{block_end, block_prefix, gathered_block}
use Rattle.cu_uses.proofs.block.Block.of.Goals as goal

pub loop-d-preserved : goal.loop-d-preserved
loop-d-preserved c owner names after differ all rest =
    c.loop-d.invariant owner names after differ all
    (block_prefix (DeclarationIsOf owner names) owner names c.args.ds.now c.loop-d.d-index c.d-item.result c.loop-d.block c.declaration.new.self after c.d-item.is c.loop-d-test.true all
    (λ of. c.in_ok-declaration.ensures owner names differ of) rest)

pub returns : goal.returns
returns c owner names differ all =
    gathered_block owner names c.new-block.result c.loop-d.block (block_declares names c.args.ds.now) (block_signs names c.args.ds.now) c.new-block.ensures
    (c.loop-d.invariant owner names c.loop-d.block differ all (block_end owner names c.args.ds.now c.loop-d.d-index c.loop-d.block c.loop-d-test.false))
