use Rattle.std.proofs.Common.{◌≡◌, refl, subst}
use Rattle.std.specs.Prelude.{Err, IfOk, Ok}
use Rattle.cu_deftree.specs.Inside.Outcome.{AreLoweredOrTooBig}
use Rattle.cu_kernel.specs.Kernel.{program_of}
use Rattle.cu_deftree.proofs.LoweredFunctions.{first_too_big}
use Rattle.cu_deftree.proofs.functions.lowered_functions.Goals as goal

pub functions_or_too_big-requires : goal.functions_or_too_big-requires
functions_or_too_big-requires c = c.requires

pub returns-in-Ok-Ok-clause-lowered : goal.returns-in-Ok-Ok-clause-lowered
returns-in-Ok-Ok-clause-lowered c =
    let kernel = c.args.program.now in
    let is = c.in-Ok-Ok.is in
    let outer = c.in-Ok-Ok.field-0-is in
    let same : c.functions_or_too_big.result ≡ Ok (Ok c.in-Ok-Ok.functions) = cc in
    subst (λ r. IfOk r (AreLoweredOrTooBig (program_of kernel) kernel.functions)) same c.functions_or_too_big.ensures.lowered

pub returns-in-Ok-Err-clause-fault : goal.returns-in-Ok-Err-clause-fault
unfolding program_of
returns-in-Ok-Err-clause-fault c =
    let kernel = c.args.program.now in
    let is = c.in-Ok-Err.is in
    let outer = c.in-Ok-Err.field-0-is in
    let same : c.functions_or_too_big.result ≡ Ok (Err c.in-Ok-Err.f) = cc in
    first_too_big (program_of kernel) kernel.functions c.in-Ok-Err.f refl c.functions_or_too_big.ensures.valid.program c.requires
    (subst (λ r. IfOk r (AreLoweredOrTooBig (program_of kernel) kernel.functions)) same c.functions_or_too_big.ensures.lowered)
