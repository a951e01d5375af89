use Rattle.std.proofs.Common.{map, sym, ap, ◌∙◌}
use Rattle.cu_kernel.proofs.Decides.{exactly_valid}
use Rattle.cu_kernel.proofs.program.ProgramParts.valid.Goals as goal
use Rattle.cu_kernel.specs.FirstTypes.{has_first_types}
use Rattle.cu_kernel.specs.Heads.{heads_program}
use Rattle.cu_kernel.specs.KernelOf.{type_meaning}

pub returns : goal.returns
returns c =
    let first = ap (λ ts. has_first_types c.args.self.now.special (map type_meaning ts)) c.as_slice.ensures.value in
    exactly_valid c.args.self.now (heads_program c.in_ok-heads.heads) c.as_slice-2.result.now c.functions_fit.result c.in_ok-heads.ensures
    (sym first ∙ sym c.if-not-has_first_types.ensures) (sym c.if-not-has_arities.ensures) (sym c.if-not-has_special.ensures)
    (sym c.if-not-declarations_fit.ensures) c.as_slice-2.ensures.value c.functions_fit.ensures
