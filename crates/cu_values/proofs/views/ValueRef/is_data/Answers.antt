use Rattle.std.proofs.Common.{rules, ◌∙◌}
use borrow.Author.Tests.{tests}
use Rattle.std.proofs.lemmas.Iterator.{YieldsList-from_slice}
use Rattle.std.proofs.lemmas.Iterator.Search.{all_from_yields_List}
use Rattle.cu_values.specs.Inside.CellKinds.{is_data_cell}
use Rattle.cu_values.specs.Cells.{spell}
use Rattle.cu_values.proofs.KindLemmas.{cells_data}
use Rattle.cu_values.specs.Views.{viewed}
use Rattle.cu_values.proofs.views.ValueRef.is_data.Goals as goal

pub returns : goal.returns
returns c =
    all_from_yields_List is_data_cell _ _ c.all.result c.all.ensures.ran
    (YieldsList-from_slice (spell (viewed c.args.self)) (c.iter.ensures.rest ∙ c.cells.ensures)) (λ x b q k. search (rules, tests))
    ∙ cells_data (viewed c.args.self)
