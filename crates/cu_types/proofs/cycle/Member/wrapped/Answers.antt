use Rattle.std.proofs.Common.{ℕ, List, slice_get, sym, ap, ◌∙◌}
use Rattle.cu_types.proofs.cycle.Member.wrapped.Goals as goal
use Rattle.cu_types.specs.Table.{places, shape_of}
use Rattle.cu_types.specs.declared.node.Node.{Node}

pub put_into-requires : goal.put_into-requires
put_into-requires c = λ k a e.
    c.requires k a (ap (λ (n : Node). slice_get (places (shape_of n)) k) c.in-Applied.is
    ∙ ap (λ (xs : List ℕ). slice_get xs k) (sym c.as_slice.ensures.value) ∙ e)
