use Rattle.std.proofs.Common.{ap, map, refl, subst, sym, ◌∙◌}
use Rattle.std.specs.Prelude.{Ok}
use Rattle.cu_deftree.specs.Inside.OtherFunctions.{with_functions}
use Rattle.cu_deftree.specs.LoweredProgram.{Lowering}
use Rattle.cu_kernel.specs.Kernel.{Kernel, program_of}
use Rattle.cu_kernel.specs.KernelOf.{function_meaning}
use Rattle.cu_kernel.specs.Valid.{IsValid}
use Rattle.cu_deftree.proofs.KernelStays.{kernel_stays}
use Rattle.cu_deftree.proofs.LoweredFunctions.{all_flat}
use Rattle.cu_deftree.proofs.lowered_program.lowered_program.Goals as goal

pub lowered_functions-requires : goal.lowered_functions-requires
lowered_functions-requires c = c.requires

pub new-requires : goal.new-requires
new-requires c =
    subst (λ (k : Kernel). IsValid k) (sym c.in_ok-parts.ensures)
    (kernel_stays c.args.program.now (map function_meaning c.in_ok-functions.functions.items) c.lowered_functions.ensures.valid
    c.in_ok-functions.ensures.lowered)

pub returns-clause-flat : goal.returns-clause-flat
unfolding program_of
returns-clause-flat c =
    let kernel = c.args.program.now in
    let functions = map function_meaning c.in_ok-functions.functions.items in
    subst (λ (k : Kernel). Lowering (program_of kernel) (Ok (program_of k))) (sym (c.new.ensures ∙ c.in_ok-parts.ensures))
    (all_flat (program_of kernel) (program_of (with_functions kernel functions)) kernel.functions functions refl refl refl refl
    c.in_ok-functions.ensures.lowered)

pub returns-clause-rest : goal.returns-clause-rest
returns-clause-rest c =
    let is = c.new.ensures ∙ c.in_ok-parts.ensures in
    is ∙ ap (with_functions c.args.program.now) (sym (ap (λ (k : Kernel). k.functions) is))
