use Rattle.std.proofs.Common.{◌≡◌, ◌<◌, length, refl, arith}
use Rattle.std.proofs.lemmas.Option.{slice_get_read}
use Rattle.cu_cycles.proofs.OnCycles.{flagged, row_ranked}
use Rattle.cu_cycles.proofs.Rows.{as_many, row_read}
use Rattle.cu_cycles.specs.Graph.{rows_in}
use Rattle.cu_cycles.proofs.cycles.on_cycles.Goals as goal

pub has_rank-requires : goal.has_rank-requires
has_rank-requires c =
    let rows = c.args.graph.now in
    let many : length (rows_in rows) ≡ length rows = as_many rows in
    let low : c.loop-node.node < length rows = c.loop-node-test.true in
    row_ranked (rows_in rows) c.in_ok-found.found.ranks.items c.in_ok-found.found.count c.requires c.in_ok-found.ensures c.loop-node.node c.index-graph-node.result.items
    c.as_slice-in-loop-node.result.now c.as_slice.result.now
    (row_read rows c.loop-node.node c.index-graph-node.result (omega arith) c.index-graph-node.is)
    c.as_slice-in-loop-node.ensures.value c.as_slice.ensures.value

pub loop-node-preserved : goal.loop-node-preserved
loop-node-preserved c =
    let rows = c.args.graph.now in
    let many : length (rows_in rows) ≡ length rows = as_many rows in
    let ranks = c.in_ok-found.found.ranks.items in
    let size : length ranks ≡ length (rows_in rows) = c.in_ok-found.ensures.sized in
    let low : c.loop-node.node < length rows = c.loop-node-test.true in
    flagged (rows_in rows) ranks c.in_ok-found.found.count c.requires c.in_ok-found.ensures c.loop-node.node c.index.result.now c.index-graph-node.result.items
    c.as_slice-in-loop-node.result.now c.as_slice.result.now c.has_rank.result c.loop-node.flags.items c.push.new.self.items
    (row_read rows c.loop-node.node c.index-graph-node.result (omega arith) c.index-graph-node.is)
    c.as_slice-in-loop-node.ensures.value c.as_slice.ensures.value
    (slice_get_read ranks (length ranks) c.loop-node.node c.index.result.now refl (omega arith) c.index.ensures) c.in_ok-push.ensures.items c.has_rank.ensures c.loop-node.invariant
