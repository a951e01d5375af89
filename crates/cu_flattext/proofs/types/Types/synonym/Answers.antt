use Rattle.std.proofs.Common.{◌≡◌, ℕ, ◌<◌, List, ◌++◌, None, OnOk, Option, IfSome, ap, length, subst, sym, ◌∙◌}
use Rattle.std.proofs.lemmas.Result.{on_ok_weaker}
use Rattle.cu_flattext.specs.Inside.Stands.{lowered_of}
use Rattle.cu_flattext.specs.Inside.Tasks.{Writes}
use Rattle.cu_flattext.specs.Inside.TypeTasks.{expansion_text, setting_in, synonym_at, texts_at, types_left, types_left_with_text}
use Rattle.cu_flattext.specs.declared.types.Expansion.{Expansion}
use Rattle.cu_flattext.proofs.ScopeLemmas.{text_count}
use Rattle.cu_flattext.proofs.types.Types.synonym.Goals as goal

pub expand-requires : goal.expand-requires
expand-requires c =
    subst (λ (o : Option Expansion). IfSome o (λ e. c.args.place < length c.args.self.now.scopes.items)) c.in-Some.is c.in_ok-expansion.ensures.there

pub returns-in-Some : goal.returns-in-Some
returns-in-Some c =
    let self = c.args.self.now in
    let program = lowered_of self.wording in
    let texts = texts_at self c.args.place c.args.ts.now in
    let long = text_count program (setting_in self c.args.place) c.args.ts.now in
    let is = c.in_ok-expansion.ensures.text texts long ∙ ap (λ (o : Option Expansion). expansion_text program c.args.s texts o) c.in-Some.is in
    on_ok_weaker c.expand.result
    (λ made. ap (λ (t : List ℕ). c.args.page.now.text.items ++ t) (made ∙ ap (λ (t : List ℕ). t ++ types_left self) (sym is)))
    c.expand.ensures

pub returns-in-None : goal.returns-in-None
returns-in-None c =
    let self = c.args.self.now in
    let program = lowered_of self.wording in
    let texts = texts_at self c.args.place c.args.ts.now in
    let long = text_count program (setting_in self c.args.place) c.args.ts.now in
    let is : synonym_at self c.args.place c.args.s texts ≡ expansion_text program c.args.s texts None =
    c.in_ok-expansion.ensures.text texts long ∙ ap (λ (o : Option Expansion). expansion_text program c.args.s texts o) c.in-None.is in
    subst (λ (text : List ℕ). OnOk c.constructed.result (Writes c.args.page.now.text.items (types_left_with_text text self)
    c.constructed.new.page.text.items (types_left c.constructed.new.self)))
    (sym is) c.constructed.ensures
