use Rattle.std.proofs.Common.{ℕ, Bool, List, false, slice_get, slice_index_or, sym, ap, ◌∙◌}
use Rattle.std.specs.List.{list_any}
use Rattle.cu_types.proofs.FunctionalLemmas.{arrow_holds, named_holds}
use Rattle.cu_types.specs.Table.{places, shape_of}
use Rattle.cu_types.specs.declared.node.Node.{Node}
use Rattle.cu_types.proofs.functional.node_holds.Goals as goal

pub some_hold-requires : goal.some_hold-requires
some_hold-requires c = λ k a e.
    c.requires k a (ap (λ (x : Node). slice_get (places (shape_of x)) k) c.in-Applied.is
    ∙ ap (λ (xs : List ℕ). slice_get xs k) (sym c.as_slice.ensures.value) ∙ e)

pub returns-in-Arrow : goal.returns-in-Arrow
returns-in-Arrow c =
    arrow_holds (λ a. slice_index_or c.args.holds.now a false) c.args.node.now c.in-Applied.head c.in-Applied.arguments c.in-Applied.is c.in-Arrow.is

pub returns-in-Named : goal.returns-in-Named
returns-in-Named c =
    let f : ℕ → Bool = λ a. slice_index_or c.args.holds.now a false in
    c.some_hold.ensures ∙ ap (list_any f) c.as_slice.ensures.value
    ∙ named_holds f c.args.node.now c.in-Applied.head c.in-Applied.arguments c.in-Named.field-0 c.in-Applied.is c.in-Named.is
