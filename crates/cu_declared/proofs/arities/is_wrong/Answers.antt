use Rattle.std.proofs.Common.{◌∙◌, ap, sym, subst}
use Rattle.std.specs.Option.{option_map}
use Rattle.std.specs.Prelude.{IfSome}
use Rattle.cu_entities.specs.EntityMeaning.{EntityIsKnown, entity_meaning}
use Rattle.cu_declared.specs.Inside.Arities.{differs, is_wrong_for}
use Rattle.cu_declared.proofs.arities.is_wrong.Goals as goal

pub returns-in-None : goal.returns-in-None
returns-in-None c w numbers at of have =
    ap (is_wrong_for numbers c.args.used.arguments) (ap (option_map (entity_meaning w.names)) (sym c.in-None.is) ∙ c.meaning.ensures.meaning w at of)

pub returns-in-Some : goal.returns-in-Some
returns-in-Some c w numbers at of have =
    let known = subst (λ m. IfSome m (EntityIsKnown w.names)) c.in-Some.is (c.meaning.ensures.known w at) in
    c.differs.ensures ∙ ap (λ o. differs o c.args.used.arguments) (c.of.ensures w.names numbers known have)
    ∙ ap (is_wrong_for numbers c.args.used.arguments) (ap (option_map (entity_meaning w.names)) (sym c.in-Some.is) ∙ c.meaning.ensures.meaning w at of)
