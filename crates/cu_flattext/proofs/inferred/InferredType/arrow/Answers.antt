use Rattle.std.proofs.Common.{ℕ, List, [], OnOk, ap, get_or, subst}
use Rattle.std.proofs.lemmas.Result.{on_ok_weaker}
use Rattle.cu_types.specs.declared.node.TypeHead.TheVariants as head
use Rattle.cu_flattext.specs.Inside.InferredTasks.{inferred_left, inferred_left_after, text_of_type, type_at, type_with}
use Rattle.cu_flattext.specs.Inside.Tasks.{Writes}
use Rattle.cu_flattext.specs.TypeTexts.{type_variables}
use Rattle.cu_flattext.proofs.InferredLemmas.{not_two, text_written, two_items}
use Rattle.cu_flattext.proofs.inferred.InferredType.arrow.Goals as goal

pub returns-then-arguments-ne2 : goal.returns-then-arguments-ne2
returns-then-arguments-ne2 c =
    let self = c.args.self.now in
    on_ok_weaker c.push_parameter.result
    (λ e. text_written c.args.page.now.text.items c.push_parameter.new.page.text.items (get_or (type_variables self.count) 0 [])
    (text_of_type self (type_with self head.Arrow c.args.arguments.now)) (inferred_left self) e
    (ap (text_of_type self) (not_two (type_at self.table) c.args.arguments.now c.if-arguments-ne2.true)))
    c.push_parameter.ensures

pub returns : goal.returns
returns c =
    let self = c.args.self.now in
    subst (λ (text : List ℕ). OnOk c.functions.result (Writes c.args.page.now.text.items (inferred_left_after text self)
    c.functions.new.page.text.items (inferred_left c.functions.new.self)))
    (ap (λ (ps : List ℕ). text_of_type self (type_with self head.Arrow ps))
    (two_items c.args.arguments.now c.if-arguments-ne2.false))
    c.functions.ensures
