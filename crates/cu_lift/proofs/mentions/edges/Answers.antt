use Rattle.std.proofs.Common.{◌<◌, ◌++◌, ℕ, List, ap, length, refl}
use Rattle.std.proofs.lemmas.Option.{slice_get_read}
use Rattle.std.specs.declared.alloc.Global.{Global}
use Rattle.std.specs.declared.vec.Vec.{Vec}
use Rattle.cu_cycles.specs.Graph.{rows_in}
use Rattle.cu_lift.proofs.Edges.{edges_done, edges_more}
use Rattle.cu_lift.specs.Inside.MentionsOf.{targets_in}
use Rattle.cu_lift.proofs.mentions.edges.Goals as goal

pub loop-row-init : goal.loop-row-init
loop-row-init c = ap (λ (xs : List (Vec ℕ Global)). rows_in xs ++ targets_in c.args.rows.now) c.new-edges.ensures.items

pub loop-row-preserved : goal.loop-row-preserved
loop-row-preserved c =
    let rows = c.args.rows.now in
    let i = c.loop-row.row-index in
    let low : i < length rows = c.loop-row-test.true in
    edges_more rows i c.row-item.result c.as_slice.result.now c.in_ok-found.found c.loop-row.edges.items c.push.new.self.items
    (slice_get_read rows (length rows) i c.row-item.result refl low c.row-item.is) c.as_slice.ensures.value c.in_ok-found.ensures c.in_ok-push.ensures.items c.loop-row.invariant

pub returns : goal.returns
returns c = edges_done c.loop-row.edges.items c.args.rows.now c.loop-row.row-index c.loop-row-test.false c.loop-row.invariant
