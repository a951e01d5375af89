use Rattle.std.specs.Prelude.{IfSome}
use Rattle.std.proofs.Common.{length, subst}
use Rattle.cu_fixity.specs.Grouping.{Grouped}
use Rattle.cu_fixity.specs.Pieces.{fixity_at, items_of}
use Rattle.cu_forms.proofs.OrderLemmas.{all_within}
use Rattle.cu_forms.proofs.tree_order.in_tree_order.Goals as goal

pub in_order-requires : goal.in_order-requires
in_order-requires g c =
    let ps = c.args.pieces.now in
    all_within (length c.args.written.now) ps c.in-Some.tree c.cells.result.now c.requires
    (subst (λ found. IfSome found (Grouped (fixity_at ps) (items_of ps))) c.in-Some.is c.in_ok-tree.ensures.tree) c.cells.ensures
