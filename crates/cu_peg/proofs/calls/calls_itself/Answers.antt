use Rattle.std.proofs.Common.{◌∙◌, sym, ap, refl, set, true, List, Bool}
use Rattle.std.proofs.lemmas.Option.{slice_get_read}
use Rattle.cu_peg.specs.Inside.Closure.{holds}
use Rattle.cu_peg.proofs.CallLemmas.{held_by_itself}
use Rattle.cu_peg.proofs.calls.calls_itself.Goals as goal

pub returns : goal.returns
returns c = λ rows nullable tells is.
    let condition = c.index-calls-number.result in
    let at = slice_get_read c.args.calls.now _ c.args.number condition refl c.requires c.index-calls-number.is in
    let by = held_by_itself rows nullable tells c.args.calls.now is c.args.number _ _ c.in_ok-closure.closure.marks.items c.in_ok-closure.closure.order.items
    condition at (ap (λ (ms : List Bool). set ms c.args.number true) (c.in_ok-itself.ensures.items_if_clones_equal (λ y e. e))) refl
    c.in_ok-closure.ensures.derived c.in_ok-closure.ensures.saturated in
    let is_held = c.holds.ensures ∙ ap (λ (ms : List Bool). holds ms condition) c.as_slice.ensures.value in
    (λ h. by.0 (sym is_held ∙ h), λ far. is_held ∙ by.1 far)
