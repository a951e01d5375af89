use Rattle.std.proofs.Common.{false, length, slice_index_or, sym, ap, ◌∙◌}
use Rattle.cu_types.proofs.SynonymLemmas.{node_arguments}
use Rattle.cu_types.proofs.keeping.node_meets.Goals as goal
use Rattle.std.specs.List.{list_any}
use Rattle.cu_types.specs.Inside.Keeping.{shape_meets}
use Rattle.cu_types.specs.Table.{shape_of}
use Rattle.cu_types.specs.declared.node.Node.{Node}

pub returns-in-Variable : goal.returns-in-Variable
returns-in-Variable c =
    c.contains.ensures.value
    ∙ sym (ap (λ (n : Node). shape_meets (λ a. slice_index_or c.args.found.now a false) c.args.variables.now (shape_of n)) c.in-Variable.is)

pub some_found-requires : goal.some_found-requires
some_found-requires c =
    (node_arguments (length c.args.found.now) c.args.node.now c.in-Applied.field-0 c.in-Applied.arguments c.as_slice.result.now
    c.requires c.in-Applied.is c.as_slice.ensures.value).1

pub returns-in-Applied : goal.returns-in-Applied
returns-in-Applied c =
    c.some_found.ensures
    ∙ ap (list_any (λ a. slice_index_or c.args.found.now a false)) c.as_slice.ensures.value
    ∙ sym (ap (λ (n : Node). shape_meets (λ a. slice_index_or c.args.found.now a false) c.args.variables.now (shape_of n)) c.in-Applied.is)
