-- What is inside has a token, and stands there.
use Rattle.std.proofs.Common.{ap, ◌∙◌}
use Rattle.cu_syntax.specs.SubtreeMeaning.{tree_of}
use Rattle.cu_syntax.specs.Syntax.{type_position}
use Rattle.cu_syntax.proofs.PatternPlaces.{type_stands}
use Rattle.cu_syntax.proofs.TypeForms.{type_node_has_token}
use Rattle.cu_syntax.proofs.types.TypeTerm.place.Goals as goal

pub place-requires : goal.place-requires
place-requires c = type_node_has_token c.inside.result.symbol c.inside.ensures.node

pub returns-clause-position : goal.returns-clause-position
returns-clause-position c = λ names.
    let inner = c.inside.result in
    c.place.ensures.position names ∙ type_stands inner.symbol (tree_of names inner) c.inside.ensures.node (inner.fits names) (c.inside.ensures.bare names)
    ∙ ap type_position (c.inside.ensures.same names)

pub returns-clause-owned : goal.returns-clause-owned
returns-clause-owned c = λ owner names whole. c.place.ensures.owned owner names (c.inside.ensures.owned owner names whole)
