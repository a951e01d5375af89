use Rattle.std.proofs.Common.{length, refl, sym}
use Rattle.std.proofs.lemmas.Option.{slice_get_read}
use Rattle.cu_lift.proofs.mentions.row_of.Goals as goal

pub returns : goal.returns
returns c =
    let rows = c.args.rows.now in
    let row = c.index-rows-function.result in
    (row, slice_get_read rows (length rows) c.args.function row refl c.requires c.index-rows-function.is, sym c.as_slice.ensures.value)
