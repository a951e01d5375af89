use Rattle.std.proofs.Common.{◌≡◌, ℕ, List, ap, length, sym, ◌∙◌}
use Rattle.std.proofs.lemmas.Option.{slice_get_within}
use Rattle.cu_flattext.specs.Inside.Stands.{lowered_of}
use Rattle.cu_flattext.specs.Inside.TypeTasks.{Setting, expansion_text, synonym_at}
use Rattle.cu_flattext.specs.TypeTexts.{expanded_within}
use Rattle.cu_flattext.proofs.ListLemmas.{always_there, if_ok}
use Rattle.cu_flattext.proofs.ScopeLemmas.{no_setting, setting_is}
use Rattle.cu_flattext.proofs.types.Types.expansion.Goals as goal

pub returns-in-Some-clause-there : goal.returns-in-Some-clause-there
returns-in-Some-clause-there c =
    always_there c.expansion_within.result (slice_get_within c.args.self.now.scopes.items c.args.place c.in-Some.scope (sym c.in-Some.ensures))

pub returns-in-Some-clause-text : goal.returns-in-Some-clause-text
returns-in-Some-clause-text c =
    let self = c.args.self.now in
    let program = lowered_of self.wording in
    let s = c.args.s in
    if_ok c.expansion_within.result
    (λ found. (arguments : List (List ℕ)) → length arguments ≡ c.args.count
    → expanded_within c.in-Some.scope.depth program s arguments ≡ expansion_text program s arguments found)
    (λ found. (arguments : List (List ℕ)) → length arguments ≡ c.args.count
    → synonym_at self c.args.place s arguments ≡ expansion_text program s arguments found)
    (λ found is arguments long.
    ap (λ (t : Setting). expanded_within t.depth program s arguments)
    (setting_is program self.scopes.items c.args.place c.in-Some.scope (sym c.in-Some.ensures))
    ∙ is arguments long)
    c.expansion_within.ensures

pub returns-in-None-clause-text : goal.returns-in-None-clause-text
returns-in-None-clause-text c = λ arguments long.
    let self = c.args.self.now in
    let program = lowered_of self.wording in
    ap (λ (t : Setting). expanded_within t.depth program c.args.s arguments) (no_setting program self.scopes.items c.args.place (sym c.in-None.ensures))
