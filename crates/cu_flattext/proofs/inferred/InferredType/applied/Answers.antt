use Rattle.std.proofs.Common.{ℕ, List, ◌∙◌, OnOk, ap, subst, sym}
use Rattle.cu_types.specs.declared.node.TypeHead.{TypeHead}
use Rattle.cu_flattext.specs.Inside.InferredTasks.{inferred_left, inferred_left_after, text_of_type, type_with}
use Rattle.cu_flattext.specs.Inside.Stands.{lowered_of}
use Rattle.cu_flattext.specs.Inside.Tasks.{Writes}
use Rattle.cu_flattext.proofs.InferredLemmas.{named_read}
use Rattle.cu_flattext.proofs.inferred.InferredType.applied.Goals as goal

pub returns-in-Named : goal.returns-in-Named
returns-in-Named c =
    let self = c.args.self.now in
    let ps = c.args.arguments.now in
    subst (λ (text : List ℕ). OnOk c.named.result (Writes c.args.page.now.text.items (inferred_left_after text self)
    c.named.new.page.text.items (inferred_left c.named.new.self)))
    (named_read (lowered_of self.wording) self.count self.table c.in-Named.name ps
    ∙ ap (λ (h : TypeHead). text_of_type self (type_with self h ps)) (sym c.in-Named.is))
    c.named.ensures
