use Rattle.std.proofs.Common.{ℕ, List, [], ◌∙◌, OnOk, ap, get_or, subst, sym}
use Rattle.std.proofs.lemmas.Result.{on_ok_weaker}
use Rattle.cu_types.specs.Table.{shape_of}
use Rattle.cu_types.specs.declared.node.Node.{Node}
use Rattle.cu_flattext.specs.Inside.InferredTasks.{inferred_left, inferred_left_after, text_of_type, type_of_shape, type_with}
use Rattle.cu_flattext.specs.Inside.Tasks.{Writes}
use Rattle.cu_flattext.specs.TypeTexts.{type_variables}
use Rattle.cu_flattext.proofs.InferredLemmas.{text_written}
use Rattle.cu_flattext.proofs.inferred.InferredType.node.Goals as goal

pub returns-in-Variable : goal.returns-in-Variable
returns-in-Variable c =
    let self = c.args.self.now in
    on_ok_weaker c.push_parameter.result
    (λ e. text_written c.args.page.now.text.items c.push_parameter.new.page.text.items (get_or (type_variables self.count) c.in-Variable.x [])
    (text_of_type self (type_of_shape self (shape_of c.args.node.now))) (inferred_left self) e
    (ap (λ (n : Node). text_of_type self (type_of_shape self (shape_of n))) (sym c.in-Variable.is)))
    c.push_parameter.ensures

pub returns-in-Applied : goal.returns-in-Applied
returns-in-Applied c =
    let self = c.args.self.now in
    subst (λ (text : List ℕ). OnOk c.applied.result (Writes c.args.page.now.text.items (inferred_left_after text self)
    c.applied.new.page.text.items (inferred_left c.applied.new.self)))
    (ap (λ (ps : List ℕ). text_of_type self (type_with self c.in-Applied.head ps)) c.as_slice.ensures.value
    ∙ ap (λ (n : Node). text_of_type self (type_of_shape self (shape_of n))) (sym c.in-Applied.is))
    c.applied.ensures
