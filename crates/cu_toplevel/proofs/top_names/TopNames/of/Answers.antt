use Rattle.std.proofs.Common.{◌<◌, ◌∙◌, ap, refl, subst, sym}
use Rattle.std.proofs.lemmas.List.{length-map}
use Rattle.cu_modules.specs.declared.modules.Module.{Module}
use Rattle.cu_modules.specs.Ordering.{module_of, modules_of}
use Rattle.cu_names.specs.Texts.{IsKnown}
use Rattle.cu_translation.specs.ModuleNames.{names_in}
use Rattle.cu_toplevel.proofs.TopLemmas.{owned_by, owner_is}
use Rattle.cu_toplevel.proofs.top_names.TopNames.of.Goals as goal

pub returns-clause-tells : goal.returns-clause-tells
returns-clause-tells c =
    let names = c.args.names.now in
    let modules = c.args.modules.now in
    let d = c.index-modules-number.result in
    let is = c.name-owner.ensures ∙ ap (λ (m : Module). m.name) c.index-modules-number.is in
    let has = c.requires.has c.args.number d c.requires.number in
    let known = subst (IsKnown names) (sym is) has.known in
    record {
      modules = modules_of names modules;
      entities = c.requires.entities;
      scopes = c.requires.scopes;
      table = refl;
      within = subst (λ n. c.args.number < n) (sym (length-map modules (module_of names))) c.requires.number;
      is = owned_by (names_in names (modules_of names modules) c.args.number) c.name-owner.result (owner_is names modules c.args.number d c.name-owner.result c.requires.entities.differ c.requires.number is known);
    }
