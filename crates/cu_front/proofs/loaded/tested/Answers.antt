use Rattle.cu_names.proofs.Growth.{extends-itself}
use Rattle.cu_modules.specs.Ordering.{modules_of}
use Rattle.cu_front.proofs.LoadedLemmas.{alone_are_compiled}
use Rattle.cu_front.proofs.loaded.tested.Goals as goal

pub returns-in_default-clause-names : goal.returns-in_default-clause-names
returns-in_default-clause-names c = extends-itself c.args.names.now

pub returns-in-Ok-clause-compiled : goal.returns-in-Ok-clause-compiled
returns-in-Ok-clause-compiled c held walk =
    let ms = modules_of c.args.names.now c.args.modules.now in
    let root = c.args.root.now in
    alone_are_compiled held root ms c.alone.new.names c.alone.result c.in-Ok.field-0 c.in-Ok.is (c.alone.ensures.program root) walk

pub returns-clause-fault : goal.returns-clause-fault
returns-clause-fault c = c.in-Err.ensures.fault c.args.root.now
