use Rattle.std.proofs.Common.{◌∙◌, ap, sym, subst}
use Rattle.std.specs.Option.{option_map}
use Rattle.std.specs.Prelude.{IfSome}
use Rattle.cu_entities.specs.EntityMeaning.{EntityIsKnown, entity_meaning}
use Rattle.cu_declared.specs.Inside.Synonyms.{number_if}
use Rattle.cu_declared.proofs.synonyms.target.Goals as goal

pub returns-in-None : goal.returns-in-None
returns-in-None c w kept at of have = ap (number_if kept) (ap (option_map (entity_meaning w.names)) (sym c.in-None.is) ∙ c.meaning.ensures.meaning w at of)

pub returns-in-Some : goal.returns-in-Some
returns-in-Some c w kept at of have =
    let known = subst (λ m. IfSome m (EntityIsKnown w.names)) c.in-Some.is (c.meaning.ensures.known w at) in
    c.of.ensures w.names kept known have ∙ ap (number_if kept) (ap (option_map (entity_meaning w.names)) (sym c.in-Some.is) ∙ c.meaning.ensures.meaning w at of)
