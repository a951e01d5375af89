use Rattle.std.proofs.Common.{◌∙◌}
use Rattle.cu_peg.proofs.CallLemmas.{order_of_calls}
use Rattle.cu_peg.proofs.calls.call_order.Goals as goal

pub returns : goal.returns
returns c =
    order_of_calls c.args.rows.now c.args.nullable.now c.requires.nullable c.as_slice.result.now (c.as_slice.ensures.value ∙ c.in_ok-calls.ensures)
    c.requires.closed c.requires.well_formed c.in_ok-none.none.items c.in_ok-closure.closure.marks.items c.in_ok-closure.closure.order.items _
    (c.in_ok-none.ensures.items_if_clones_equal (λ y e. e)) c.in_ok-closure.ensures.derived c.in_ok-closure.ensures.saturated
