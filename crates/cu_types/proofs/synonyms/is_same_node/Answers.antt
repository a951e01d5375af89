use Rattle.cu_types.proofs.SynonymLemmas.{same_applied, same_variable}
use Rattle.cu_types.proofs.synonyms.is_same_node.Goals as goal
use Rattle.cu_types.specs.Table.{shape_of}

pub returns-in-Variable : goal.returns-in-Variable
returns-in-Variable c = λ yes.
    same_variable (shape_of c.args.left.now) c.args.right.now c.in-Variable.x c.in-Variable.is (c.is_variable.ensures.0 yes)

pub returns-in-Applied : goal.returns-in-Applied
returns-in-Applied c = λ yes.
    same_applied (shape_of c.args.left.now) c.args.right.now c.in-Applied.head c.in-Applied.arguments c.as_slice.result.now c.in-Applied.is
    c.as_slice.ensures.value (c.has_arguments.ensures.0 yes)
