use Rattle.cu_front.proofs.RunLemmas.{size_told}
use Rattle.cu_front.proofs.runnable.of_lowering.Goals as goal

pub returns-in-TreeTooBig : goal.returns-in-TreeTooBig
returns-in-TreeTooBig c =
    size_told c.args.names.now c.args.program.now c.in-TreeTooBig.f c.args.fault c.of_tree.result
    c.in-TreeTooBig.is c.requires.levels c.requires.types c.requires.fault c.of_tree.ensures
