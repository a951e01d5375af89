use Rattle.std.proofs.Common.{refl, subst, sym}
use Rattle.cu_locals.specs.Text.{text}
use Rattle.cu_modules.specs.BuiltInEntities.{HasBuiltIn}
use Rattle.cu_toplevel.specs.declared.entities.Entities.{Entities}
use Rattle.cu_toplevel.specs.EntityTables.{AreEntities}
use Rattle.cu_desugar.specs.Modules.{goal_owner, named}
use Rattle.cu_desugar.proofs.parts.goal_outcome.Goals as goal

pub text_outcome-requires : goal.text_outcome-requires
text_outcome-requires c = record {
  built_in = subst HasBuiltIn (sym c.goal_names-top.ensures.tells.table) c.requires.known.built_in;
}

pub returns : goal.returns
returns c =
    let m = c.args.modules in
    let names = m.names.now in
    let t = text (goal_owner m) names c.requires.known.entities.differ in
    let entities = subst (λ (e : Entities). AreEntities names (named m) e) (sym c.goal_names-top.ensures.entities) c.requires.known.entities in
    c.text_outcome.ensures t (named m) c.goal_names-top.ensures.tells entities refl c.requires.goal (c.in_ok-text.ensures t c.requires.goal)
