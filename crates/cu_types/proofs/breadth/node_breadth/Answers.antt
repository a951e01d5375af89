use Rattle.std.proofs.Common.{ℕ, List, slice_get, slice_index, sym, ap, ◌∙◌}
use Rattle.cu_types.specs.Inside.Breadths.{shape_breadth, widest}
use Rattle.cu_types.specs.Table.{places, shape_of}
use Rattle.cu_types.specs.declared.node.Node.{Node}
use Rattle.cu_types.proofs.breadth.node_breadth.Goals as goal

pub widest-requires : goal.widest-requires
widest-requires c = λ k a e.
    c.requires k a (ap (λ (x : Node). slice_get (places (shape_of x)) k) c.in-Applied.is
    ∙ ap (λ (xs : List ℕ). slice_get xs k) (sym c.as_slice.ensures.value) ∙ e)

pub returns-in-Applied : goal.returns-in-Applied
returns-in-Applied c =
    c.widest.ensures ∙ ap (widest (slice_index c.args.breadths.now)) c.as_slice.ensures.value
    ∙ sym (ap (λ (x : Node). shape_breadth (slice_index c.args.breadths.now) (shape_of x)) c.in-Applied.is)
