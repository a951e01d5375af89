use Rattle.std.proofs.Common.{◌≡◌, ◌∙◌, ap}
use Rattle.cu_kernel.specs.TypeExpr as type
use Rattle.cu_flattext.specs.Inside.InferredTasks.{inferred_left}
use Rattle.cu_flattext.specs.Inside.Stands.{lowered_of}
use Rattle.cu_flattext.specs.TypeTexts.{inferred_type_text}
use Rattle.cu_flattext.proofs.InferredLemmas.{type_known, type_unknown}
use Rattle.cu_flattext.proofs.ListLemmas.{if_ok}
use Rattle.cu_flattext.proofs.inferred.InferredType.of_function.Goals as goal
use Rattle.cu_types.specs.Inference.{type_in}

pub returns-in-Some : goal.returns-in-Some
returns-in-Some c =
    let program = lowered_of c.args.wording in
    if_ok c.of.result (λ made. inferred_left made ≡ inferred_type_text program c.in-Some.inferred.now)
    (λ made. inferred_left made ≡ inferred_type_text program (type_in c.args.wording.interface.now c.args.f))
    (λ made is. is ∙ ap (inferred_type_text program) (type_known c.args.wording.interface.now c.args.f c.in-Some.inferred.now c.in-Some.ensures))
    c.of.ensures

pub returns-in-None : goal.returns-in-None
returns-in-None c =
    let program = lowered_of c.args.wording in
    if_ok c.unknown.result (λ made. inferred_left made ≡ inferred_type_text program (type.Variable 0))
    (λ made. inferred_left made ≡ inferred_type_text program (type_in c.args.wording.interface.now c.args.f))
    (λ made is. is ∙ ap (inferred_type_text program) (type_unknown c.args.wording.interface.now c.args.f c.in-None.ensures))
    c.unknown.ensures
