use Rattle.std.proofs.Common.{◌≡◌, ◌∙◌, ap, map}
use Rattle.std.proofs.lemmas.List.{take_all}
use Rattle.cu_peg.specs.Inside.CallTables.{nullable_by}
use Rattle.cu_peg.proofs.CallLemmas.{tells_nullable}
use Rattle.cu_peg.proofs.calls.nullable_rows.Goals as goal

pub returns : goal.returns
returns c =
    let conditions = c.as_slice.result.now in
    let made : conditions ≡ map nullable_by c.args.rows.now =
    c.as_slice.ensures.value ∙ c.loop-row.invariant ∙ ap (map nullable_by) (take_all c.loop-row.row-index c.args.rows.now c.loop-row-test.false) in
    tells_nullable c.args.rows.now conditions c.in_ok-none.none.items c.in_ok-closure.closure.marks.items c.in_ok-closure.closure.order.items _ made
    (c.in_ok-none.ensures.items_if_clones_equal (λ y e. e)) c.in_ok-closure.ensures.derived c.in_ok-closure.ensures.saturated
