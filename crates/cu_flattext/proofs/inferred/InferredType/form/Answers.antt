use Rattle.std.proofs.Common.{ℕ, List, [], OnOk, get_or, subst}
use Rattle.std.proofs.lemmas.Result.{on_ok_weaker}
use Rattle.cu_flattext.specs.Inside.InferredTasks.{inferred_left, inferred_left_after, text_at}
use Rattle.cu_flattext.specs.Inside.Stands.{lowered_of}
use Rattle.cu_flattext.specs.Inside.Tasks.{Writes}
use Rattle.cu_flattext.specs.TypeTexts.{type_variables}
use Rattle.cu_flattext.proofs.InferredLemmas.{text_of_node, text_of_none, text_written}
use Rattle.cu_flattext.proofs.inferred.InferredType.form.Goals as goal

pub returns-in-Some : goal.returns-in-Some
returns-in-Some c =
    let self = c.args.self.now in
    subst (λ (text : List ℕ). OnOk c.node.result (Writes c.args.page.now.text.items (inferred_left_after text self)
    c.node.new.page.text.items (inferred_left c.node.new.self)))
    (text_of_node (lowered_of self.wording) self.count self.table c.args.place c.in-Some.node.now c.in-Some.ensures)
    c.node.ensures

pub returns-in-None : goal.returns-in-None
returns-in-None c =
    let self = c.args.self.now in
    on_ok_weaker c.push_parameter.result
    (λ e. text_written c.args.page.now.text.items c.push_parameter.new.page.text.items (get_or (type_variables self.count) 0 [])
    (text_at self c.args.place) (inferred_left self) e
    (text_of_none (lowered_of self.wording) self.count self.table c.args.place c.in-None.ensures))
    c.push_parameter.ensures
