use Rattle.std.proofs.Common.{Some, ◌∙◌, ap, subst, sym}
use Rattle.cu_entities.specs.EntityMeaning.{space_meaning}
use Rattle.cu_entities.specs.NameTables.{Tells}
use Rattle.cu_syntax.specs.Names.{name_meaning}
use Rattle.cu_uses.specs.Demands.{Uses}
use Rattle.cu_uses.proofs.ToldLemmas.{use_several, use_unknown}
use Rattle.cu_uses.proofs.names.use_entity.Goals as goal

pub returns-in-None : goal.returns-in-None
returns-in-None c w local sees of =
    c.tell.ensures w (Uses (space_meaning c.args.space) (name_meaning w.names c.args.name)) of
    (use_unknown w (space_meaning c.args.space) (name_meaning w.names c.args.name) c.find.result
    (c.find.ensures.meaning w.names w.bindings (record { qualifier = of.qualifier; base = of.base }) (subst (Tells w.names w.bindings) (sym c.table.ensures) sees.tells)) c.in-None.is)

pub returns-in-Some-Several : goal.returns-in-Some-Several
returns-in-Some-Several c w local sees of =
    c.tell-in-Some-Several.ensures w (Uses (space_meaning c.args.space) (name_meaning w.names c.args.name)) of
    (use_several w (space_meaning c.args.space) (name_meaning w.names c.args.name) c.find.result
    (c.find.ensures.meaning w.names w.bindings (record { qualifier = of.qualifier; base = of.base }) (subst (Tells w.names w.bindings) (sym c.table.ensures) sees.tells))
    (c.in-Some-Several.is ∙ ap Some c.in-Some-Several.field-0-is))
