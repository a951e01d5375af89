use Rattle.std.proofs.Common.{◌<◌, ◌≤◌, ◌≡◌, ap, sym, ◌∙◌, length, map, arith}
use Rattle.cu_cycles.proofs.Ranks.{are_ranks, starts}
use Rattle.cu_cycles.proofs.Rows.{as_many}
use Rattle.cu_cycles.specs.Graph.{rows_in}
use Rattle.cu_cycles.specs.Inside.Search.{number_of}
use Rattle.cu_cycles.proofs.components.find_components.Goals as goal

pub loop-node-init : goal.loop-node-init
loop-node-init c =
    let g = c.args.graph.now in
    (starts (rows_in g) c.in_ok-search.search (length g) (sym (as_many g)) c.in_ok-search.ensures, λ v h. absurd (omega arith))

pub returns : goal.returns
returns c =
    let g = c.args.graph.now in
    let s = c.loop-node.search in
    let end : length g ≤ c.loop-node.node = omega arith in
    let many : length (rows_in g) ≡ length g = as_many g in
    are_ranks (rows_in g) s c.loop-node.invariant.0
    (λ v h. let less : v < c.loop-node.node = omega arith in c.loop-node.invariant.1 v less) c.in_ok-ranks.ranks.items
    (c.in_ok-ranks.ensures ∙ ap (map number_of) c.as_slice.ensures.value)
