-- The cells have numbers of pieces.
use Rattle.std.specs.Prelude.{IfSome}
use Rattle.std.proofs.Common.{subst, ◌∙◌}
use Rattle.cu_fixity.specs.Grouping.{Grouped}
use Rattle.cu_fixity.specs.Pieces.{fixity_at, items_of}
use Rattle.cu_fixity.proofs.PartLemmas.{all_within}
use Rattle.cu_fixity.proofs.resolving.grouped.Goals as goal

pub in_order-requires : goal.in_order-requires
in_order-requires g c =
    let ps = c.as_slice.result.now in
    all_within c.args.table.now c.args.written.now ps c.in-Some.tree c.cells.result.now (c.as_slice.ensures.value ∙ c.in_ok-pieces.ensures)
    (subst (λ found. IfSome found (Grouped (fixity_at ps) (items_of ps))) c.in-Some.is c.in_ok-tree.ensures.tree) c.cells.ensures
