use Rattle.std.proofs.Common.{refl, subst}
use Rattle.std.specs.Prelude.{Option}
use Rattle.cu_calculus.specs.declared.FunId.{FunId}
use Rattle.cu_deftree.specs.Inside.Functions.{IsFound}
use Rattle.cu_kernel.specs.Heads.{heads_program}
use Rattle.cu_deftree.proofs.functions.operation.Goals as goal

pub returns : goal.returns
unfolding heads_program
returns c =
    let program = heads_program c.args.heads.now in
    subst (λ (found : Option FunId). IsFound program c.args.operation found) c.in-Some.is (c.find_operation.ensures program refl)

pub unreachable-requires : goal.unreachable-requires
unfolding heads_program
unreachable-requires c =
    let program = heads_program c.args.heads.now in
    subst (λ (found : Option FunId). IsFound program c.args.operation found) c.in-None.is (c.find_operation.ensures program refl) c.requires
