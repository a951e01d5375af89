use Rattle.std.proofs.Common.{ℕ, List, OnOk, ap, sym, subst, ◌∙◌}
use Rattle.cu_kernel.specs.TypeExpr.{TypeExpr}
use Rattle.cu_kernel.specs.TypesOf.{type_of, type_of-Named}
use Rattle.cu_kernel.specs.declared.type_term.TypeTerm.{TypeTerm}
use Rattle.cu_flattext.specs.Inside.Stands.{lowered_of}
use Rattle.cu_flattext.specs.Inside.Tasks.{Writes}
use Rattle.cu_flattext.specs.Inside.TypeTasks.{named_at, setting_in, text_at, texts_at, types_left, types_left_with_text}
use Rattle.cu_flattext.proofs.ScopeLemmas.{name_read}
use Rattle.cu_flattext.proofs.types.Types.form.Goals as goal

pub returns-in-Named : goal.returns-in-Named
returns-in-Named c =
    let self = c.args.self.now in
    let place = c.args.scope in
    let name = c.in-Named.name in
    let ts = c.in-Named.ts in
    subst (λ (text : List ℕ). OnOk c.named.result (Writes c.args.page.now.text.items (types_left_with_text text self)
    c.named.new.page.text.items (types_left c.named.new.self)))
    (ap (λ (us : List TypeTerm). named_at self place name (texts_at self place us)) c.as_slice.ensures.value
    ∙ sym (ap (λ (t : TypeExpr). text_at self place t) (ap type_of c.in-Named.is ∙ type_of-Named name ts)
    ∙ name_read (lowered_of self.wording) (setting_in self place) name ts.items))
    c.named.ensures
