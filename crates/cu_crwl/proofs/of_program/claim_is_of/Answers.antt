use Rattle.std.proofs.Common.{refl, sym, ◌∙◌}
use Rattle.cu_kernel.specs.Heads.{heads_program}
use Rattle.cu_kernel.specs.Kernel.{plain_function}
use Rattle.cu_kernel.specs.KernelOf.{function_meaning}
use Rattle.cu_crwl.specs.Meaning.{claim_of}
use Rattle.cu_crwl.proofs.OfValues.{claim_known}
use Rattle.cu_crwl.proofs.of_program.claim_is_of.Goals as goal

pub returns-in-Some : goal.returns-in-Some
returns-in-Some c =
    c.values_are_of.ensures
    ∙ sym (claim_known (heads_program c.args.heads.now) (plain_function (function_meaning c.in-Some.field-0.now)) (claim_of c.args.claim.now)
    c.args.claim.now.arguments.items c.in-Some.ensures refl)
