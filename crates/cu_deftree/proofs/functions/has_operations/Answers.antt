use Rattle.std.proofs.Common.{ap, map, sym}
use Rattle.cu_kernel.specs.Kernel.{plain_function, program_of}
use Rattle.cu_deftree.proofs.LoweredFunctions.{both_there, none_there}
use Rattle.cu_deftree.proofs.functions.has_operations.Goals as goal

pub returns-in-Some : goal.returns-in-Some
unfolding program_of
returns-in-Some c =
    let program = program_of c.args.program.now in
    let same = ap (map plain_function) (sym c.functions-functions.ensures.functions) in
    both_there program c.find_operation.result c.find_operation-equal.result c.in-Some.field-0 c.is_some.result
    (c.find_operation.ensures program same) (c.find_operation-equal.ensures program same) c.in-Some.is c.is_some.ensures

pub returns-in-None : goal.returns-in-None
unfolding program_of
returns-in-None c =
    let program = program_of c.args.program.now in
    let same = ap (map plain_function) (sym c.functions-functions.ensures.functions) in
    none_there program c.find_operation.result (c.find_operation.ensures program same) c.in-None.is
