use Rattle.cu_kernel.specs.KernelOf.{type_meaning}
use Rattle.cu_flattext.proofs.PrintingLemmas.{none_from}
use Rattle.cu_flattext.proofs.printing.declared_types.Goals as goal

pub returns-then-types-lt-BUILT_IN : goal.returns-then-types-lt-BUILT_IN
returns-then-types-lt-BUILT_IN c =
    none_from type_meaning c.types-types.result.now c.args.kernel.now.types 18 c.types-types.ensures.types c.if-types-lt-BUILT_IN.true
