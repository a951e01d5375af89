use Rattle.std.proofs.Common.{subst, sym}
use Rattle.std.specs.Prelude.{IfOk, List}
use Rattle.cu_calculus.specs.Program as calculus
use Rattle.cu_calculus.specs.declared.FunId.{FunId}
use Rattle.cu_calculus.specs.declared.builtin.Primitive.TheVariants as prim
use Rattle.cu_deftree.specs.Inside.Outcome.{AreLoweredOrTooBig}
use Rattle.cu_deftree.specs.Lowering.{IsOperation}
use Rattle.cu_kernel.specs.Heads.{heads_program}
use Rattle.cu_kernel.specs.Kernel.{Function}
use Rattle.cu_deftree.proofs.functions.functions_or_too_big.Goals as goal

pub operation-failed-requires : goal.operation-failed-requires
operation-failed-requires c =
    subst (λ (p : calculus.Program). (f : FunId) × IsOperation p prim.Failed f) (sym c.in_ok-heads.ensures) c.requires.failed

pub operation-equal-requires : goal.operation-equal-requires
operation-equal-requires c =
    subst (λ (p : calculus.Program). (f : FunId) × IsOperation p prim.Equal f) (sym c.in_ok-heads.ensures) c.requires.equal

pub functions-requires : goal.functions-requires
functions-requires c = record { failed = c.operation-failed.ensures; equal = c.operation-equal.ensures }

pub returns-clause-lowered : goal.returns-clause-lowered
returns-clause-lowered c =
    subst (λ (p : calculus.Program). IfOk c.functions.result (AreLoweredOrTooBig p c.args.program.now.functions)) c.in_ok-heads.ensures
    (subst (λ (fs : List Function). IfOk c.functions.result (AreLoweredOrTooBig (heads_program c.in_ok-heads.heads) fs))
    c.functions-functions.ensures.functions c.functions.ensures)
