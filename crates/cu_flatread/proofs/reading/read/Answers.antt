use Rattle.std.proofs.Common.{sym, subst}
use Rattle.cu_flatread.proofs.WholeLaws.{read_has, tells}
use Rattle.cu_flatread.specs.Meaning.{Tells, module_of}
use Rattle.cu_flatread.proofs.reading.read.Goals as goal

pub returns-in-Ok-clause-whole : goal.returns-in-Ok-clause-whole
returns-in-Ok-clause-whole c =
    read_has c.args.bytes.now (module_of c.whole.new.names c.in-Ok.module) c.in-Ok.ensures.gives

pub returns-in-Err-clause-fault : goal.returns-in-Err-clause-fault
returns-in-Err-clause-fault c =
    subst (Tells c.args.bytes.now) (sym c.fault_of.ensures)
    (tells (module_of c.whole.new.names) c.args.bytes.now c.in-Err.stop c.in-Err.ensures.gives)
