use Rattle.std.proofs.Common.{◌≡◌, List, sym, ap, ◌∙◌, map, arith}
use Rattle.cu_types.proofs.synonyms.is_same.Goals as goal
use Rattle.cu_types.specs.Table.{Shape, at, shape_of, trees}

pub returns : goal.returns
returns c = λ yes.
    let place : c.open-one.result.place ≡ c.open-other.result.place = omega arith in
    sym c.open-one.ensures.value
    ∙ ap (λ (ss : List Shape). at (trees ss) c.open-one.result.place) (c.is_same_table.ensures yes)
    ∙ ap (at (trees (map shape_of c.open-other.result.types.now))) place
    ∙ c.open-other.ensures.value
