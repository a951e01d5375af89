use Rattle.std.proofs.Common.{length, sym, ◌∙◌}
use Rattle.cu_deftree.proofs.RowSteps.{all_do, no_demand, none_do, some_rows}
use Rattle.cu_deftree.proofs.rows.demanded_by_all.Goals as goal

pub returns-then-all_demand : goal.returns-then-all_demand
returns-then-all_demand c =
    all_do c.args.rows.now c.index-rows-0.result c.loop-position.position c.len-count.result _ (some_rows (length c.args.rows.now) c.if-is_empty.ensures)
    c.len-count.ensures c.loop-position-test.true (sym c.all_demand.ensures ∙ c.if-all_demand.true) c.loop-position.invariant

pub loop-position-preserved : goal.loop-position-preserved
loop-position-preserved c =
    no_demand c.args.rows.now c.index-rows-0.result c.loop-position.position c.len-count.result _ (some_rows (length c.args.rows.now) c.if-is_empty.ensures)
    c.len-count.ensures c.loop-position-test.true (sym c.all_demand.ensures ∙ c.if-all_demand.false) c.loop-position.invariant

pub returns : goal.returns
returns c =
    none_do c.args.rows.now c.index-rows-0.result c.loop-position.position c.len-count.result _ c.len-count.ensures c.loop-position-test.false
    c.loop-position.invariant
