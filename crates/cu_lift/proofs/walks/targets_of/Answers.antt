use Rattle.std.proofs.Common.{Some, ap, length, refl, sym, ◌∙◌}
use Rattle.std.proofs.lemmas.Option.{slice_get_read}
use Rattle.cu_cycles.proofs.Rows.{row_at}
use Rattle.cu_lift.proofs.walks.targets_of.Goals as goal

pub returns : goal.returns
returns c =
    let rows = c.args.graph.now in
    let row = c.index-graph-function.result in
    row_at rows c.args.function row (slice_get_read rows (length rows) c.args.function row refl c.requires c.index-graph-function.is)
    ∙ ap Some (sym c.as_slice.ensures.value)
