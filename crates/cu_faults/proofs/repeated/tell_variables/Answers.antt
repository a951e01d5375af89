use Rattle.std.proofs.Common.{subst, sym}
use Rattle.std.proofs.lemmas.List.Elements.{All-nil}
use Rattle.std.specs.List.{All}
use Rattle.cu_locals.specs.Text.{text}
use Rattle.cu_syntax.specs.Owners.{NameIsOf}
use Rattle.cu_uses.proofs.FoundLemmas.{on_ok}
use Rattle.cu_faults.proofs.RepeatLemmas.{variables_are}
use Rattle.cu_faults.proofs.ToldLemmas.{told_as}
use Rattle.cu_faults.proofs.repeated.tell_variables.Goals as goal

pub returns : goal.returns
returns c w differ of =
    let P = NameIsOf w.owner w.names in
    let added = c.in_ok-names.ensures (text w.owner w.names differ) of in
    let sliced = c.as_slice.ensures.value in
    on_ok c.repeated.result (told_as (variables_are w.names c.args.ps.now c.as_slice.result.now c.in_ok-names.names.items sliced added.adds))
    (c.repeated.ensures w differ (subst (All P) (sym sliced) (added.owned (All-nil P))))
