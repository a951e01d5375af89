use Rattle.std.proofs.Common.{ap, ◌∙◌}
use Rattle.std.specs.List.{list_all}
use Rattle.cu_kernel.specs.Heads.{heads_program}
use Rattle.cu_crwl.specs.Inside.CellsOf.{cell_is_of}
use Rattle.cu_crwl.proofs.OfValues.{cells_of}
use Rattle.cu_crwl.proofs.of_program.is_of.Goals as goal

pub returns : goal.returns
returns c =
    c.cells_are_of.ensures ∙ ap (list_all (cell_is_of (heads_program c.args.heads.now))) c.cells.ensures
    ∙ cells_of (heads_program c.args.heads.now) c.args.value.now
