use Rattle.std.proofs.Common.{ℕ, List, [], ◌++◌, OnOk, ap, get_or, sym, subst}
use Rattle.std.proofs.lemmas.Option.{slice_get_within}
use Rattle.cu_flattext.specs.Inside.Stands.{lowered_of}
use Rattle.cu_flattext.specs.Inside.Tasks.{Writes}
use Rattle.cu_flattext.specs.Inside.TypeTasks.{Setting, types_left, types_left_with_text}
use Rattle.cu_flattext.proofs.ScopeLemmas.{no_setting, setting_is}
use Rattle.cu_flattext.proofs.types.Types.variable.Goals as goal

pub variable_of-requires : goal.variable_of-requires
variable_of-requires c = slice_get_within c.args.self.now.scopes.items c.args.place c.in-Some.scope (sym c.in-Some.ensures)

pub returns-in-Some : goal.returns-in-Some
returns-in-Some c =
    let self = c.args.self.now in
    subst (λ (text : List ℕ). OnOk c.variable_of.result (Writes c.args.page.now.text.items (types_left_with_text text self)
    c.variable_of.new.page.text.items (types_left c.variable_of.new.self)))
    (ap (λ (s : Setting). get_or s.variables c.args.x [])
    (sym (setting_is (lowered_of self.wording) self.scopes.items c.args.place c.in-Some.scope (sym c.in-Some.ensures))))
    c.variable_of.ensures

pub returns-in-None : goal.returns-in-None
returns-in-None c =
    let self = c.args.self.now in
    ap (λ (s : Setting). c.args.page.now.text.items ++ (get_or s.variables c.args.x [] ++ types_left self))
    (sym (no_setting (lowered_of self.wording) self.scopes.items c.args.place (sym c.in-None.ensures)))
