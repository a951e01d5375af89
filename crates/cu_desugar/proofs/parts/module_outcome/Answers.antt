use Rattle.std.proofs.Common.{◌∙◌, ap, subst, sym}
use Rattle.cu_locals.specs.Text.{text}
use Rattle.cu_modules.specs.BuiltInEntities.{HasBuiltIn}
use Rattle.cu_modules.specs.Scopes.{Named}
use Rattle.cu_names.specs.declared.names.NameId.{NameId}
use Rattle.cu_syntax.specs.Owners.{ModuleIsOf}
use Rattle.cu_toplevel.proofs.ReadingLemmas.{number_known}
use Rattle.cu_toplevel.specs.declared.entities.Entities.{Entities}
use Rattle.cu_toplevel.specs.EntityTables.{AreEntities}
use Rattle.cu_translation.specs.ModuleNames.{id_of}
use Rattle.cu_translation.specs.Parts.{reading}
use Rattle.cu_desugar.specs.Modules.{named, owner_of}
use Rattle.cu_desugar.proofs.TranslatedLemmas.{at_reading}
use Rattle.cu_desugar.proofs.parts.module_outcome.Goals as goal

pub outcome_by_reading-requires : goal.outcome_by_reading-requires
outcome_by_reading-requires c = record {
  built_in = subst HasBuiltIn (sym c.reading-reading.ensures.reads.top.table) c.requires.known.built_in;
}

pub returns : goal.returns
returns c =
    let names = c.args.modules.names.now in
    let ms = named c.args.modules in
    let number = c.args.number in
    let m = c.module-module.result.now in
    let differ = c.requires.known.entities.differ in
    let t = text (owner_of c.args.modules number) names differ in
    let owner = ap (λ (n : Named). id_of names n.name) c.module-module.ensures.is ∙ sym (number_known names m.name differ c.module-module.ensures.has.known) in
    let owned = subst (λ (o : NameId). ModuleIsOf o names m.syntax) (sym owner) c.module-module.ensures.has.owned in
    let entities = subst (λ (e : Entities). AreEntities names ms e) (sym c.reading-reading.ensures.entities) c.requires.known.entities in
    at_reading t.owner names ms number c.outcome_by_reading.result
    (c.outcome_by_reading.ensures t ms (reading names ms number) c.reading-reading.ensures.reads entities c.module-module.ensures.is owned)
