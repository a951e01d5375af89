use Rattle.std.proofs.Common.{◌∙◌, Option, ap, subst, sym}
use Rattle.std.specs.Prelude.{IfSome}
use Rattle.cu_entities.specs.declared.entities.Entity.{Entity}
use Rattle.cu_entities.specs.EntityMeaning.{EntityIsKnown}
use Rattle.cu_syntax.specs.Names.{name_meaning}
use Rattle.cu_translation.specs.Around.{Names, Nothing}
use Rattle.cu_translation.specs.ModuleNames.{value_of}
use Rattle.cu_toplevel.proofs.TopLemmas.{found_is, none_is}
use Rattle.cu_toplevel.proofs.top_names.TopNames.value.Goals as goal

pub returns-in-Some : goal.returns-in-Some
returns-in-Some c = λ owner names top tells own.
    let known = subst (λ (o : Option Entity). IfSome o (EntityIsKnown names)) c.in-Some.is (c.entity.ensures.known names tells.modules tells.scopes) in
    found_is names (value_of tells.modules) Nothing c.entity.result c.in-Some.entity _ _ c.in-Some.is (c.entity.ensures.meaning owner names tells.modules tells.scopes tells.within own)
    (c.value_of.ensures names tells.modules known.owner known.name tells.entities)
    ∙ sym (ap (λ (n : Names). n.value (name_meaning names c.args.name)) tells.is)

pub returns-in-None : goal.returns-in-None
returns-in-None c = λ owner names top tells own.
    none_is names (value_of tells.modules) Nothing c.entity.result _ c.in-None.is (c.entity.ensures.meaning owner names tells.modules tells.scopes tells.within own)
    ∙ sym (ap (λ (n : Names). n.value (name_meaning names c.args.name)) tells.is)
