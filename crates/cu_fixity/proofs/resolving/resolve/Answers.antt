-- What the parts are grouped to is what the items are grouped to.
use Rattle.std.proofs.Common.{◌∙◌}
use Rattle.cu_fixity.specs.Grouping.{HasNoTree}
use Rattle.cu_fixity.specs.Operators.{fixity_with, expression_items}
use Rattle.cu_fixity.specs.Parts.{HasNone, piece_of}
use Rattle.std.specs.Prelude.{map}
use Rattle.cu_syntax.specs.Expressions.{items_meaning}
use Rattle.cu_fixity.proofs.OwnerLemmas.{owned_in_order, smaller_in_order}
use Rattle.cu_fixity.proofs.WrittenLemmas.{resolved, clashes, told}
use Rattle.cu_fixity.proofs.resolving.resolve.Goals as goal

pub returns-in_err-parts-clause-clash : goal.returns-in_err-parts-clause-clash
returns-in_err-parts-clause-clash c = λ names fixity h.
    let table = c.args.table.now in
    let items = c.args.items.now in
    let written = c.as_slice.result.now in
    told c.from_residual-in_err-parts.result c.in_err-parts.field-0.0 items.place (HasNone (map (piece_of table) written))
    (HasNoTree (fixity_with fixity) (expression_items (items_meaning names items))) c.from_residual-in_err-parts.ensures.1
    (clashes names fixity table items written h (c.as_slice.ensures.value ∙ c.in_ok-written.ensures)) c.in_err-parts.ensures.clash

pub returns-clause-tree : goal.returns-clause-tree
returns-clause-tree c = λ names fixity h.
    resolved names fixity c.args.table.now c.args.items.now c.as_slice.result.now c.in_ok-parts.parts.items h
    (c.as_slice.ensures.value ∙ c.in_ok-written.ensures) c.in_ok-parts.ensures.order

pub returns-clause-owned : goal.returns-clause-owned
returns-clause-owned c = λ owner names h.
    let written = c.as_slice.result.now in
    owned_in_order owner names c.args.items.now (map (piece_of c.args.table.now) written) written c.in_ok-parts.parts.items h
    (c.as_slice.ensures.value ∙ c.in_ok-written.ensures) c.in_ok-parts.ensures.order

pub returns-clause-smaller : goal.returns-clause-smaller
returns-clause-smaller c =
    let written = c.as_slice.result.now in
    smaller_in_order c.args.items.now (map (piece_of c.args.table.now) written) written c.in_ok-parts.parts.items
    (c.as_slice.ensures.value ∙ c.in_ok-written.ensures) c.in_ok-parts.ensures.order
