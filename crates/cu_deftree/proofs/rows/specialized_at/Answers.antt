use Rattle.std.proofs.Common.{◌++◌, ◌∙◌, List, ap, sym, map}
use Rattle.cu_deftree.specs.Inside.RowsOf.{all_rows}
use Rattle.cu_deftree.specs.Rows.{Row, specialized}
use Rattle.cu_deftree.proofs.GroupSteps.{picked_here, picked_past, specialized_next}
use Rattle.cu_deftree.proofs.rows.specialized_at.Goals as goal

pub loop-index-preserved-then-index-rows : goal.loop-index-preserved-then-index-rows
loop-index-preserved-then-index-rows c =
    sym (ap (λ (xs : List Row). all_rows c.loop-index.some.items ++ map (specialized c.args.position c.args.arguments.now) xs)
    (picked_past c.args.rows.now c.args.indices.now c.loop-index.index-index 0 c.loop-index-test.true c.if-index-rows.true)) ∙ c.loop-index.invariant

pub loop-index-preserved : goal.loop-index-preserved
loop-index-preserved c =
    specialized_next c.args.position c.args.arguments.now c.index-rows-index.result c.loop-index.some.items c.push.new.self.items _ _ _
    c.in_ok-specialized.field-0
    (picked_here c.args.rows.now c.args.indices.now c.loop-index.index-index 0 c.index-rows-index.result c.loop-index-test.true
    c.if-index-rows.false c.index-rows-index.is)
    c.in_ok-specialized.ensures c.in_ok-push.ensures.items c.loop-index.invariant
