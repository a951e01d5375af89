use Rattle.std.proofs.Common.{◌∙◌, List, ap, subst, sym}
use Rattle.std.proofs.lemmas.List.Elements.{All-nil}
use Rattle.std.specs.List.{All}
use Rattle.std.specs.Prelude.{IfOk}
use Rattle.cu_locals.specs.Entries.{AreEntries}
use Rattle.cu_syntax.specs.Owners.{NameIsOf}
use Rattle.cu_syntax.specs.Syntax.{Name}
use Rattle.cu_translation.specs.LocalNames.{variable_entries}
use Rattle.cu_uses.specs.Gathered.{names_meaning}
use Rattle.cu_forms.proofs.entries.pattern_entries.Goals as goal

pub returns : goal.returns
returns c t of =
    let P = NameIsOf t.owner t.names in
    let got = c.in_ok-names.ensures t of in
    let all = subst (All P) (sym c.as_slice.ensures.value) (got.owned (All-nil P)) in
    subst (λ (xs : List Name). IfOk c.variable_entries.result (λ found. AreEntries t (variable_entries xs) found.items)) (ap (names_meaning t.names) c.as_slice.ensures.value ∙ got.adds)
    (c.variable_entries.ensures t all)
