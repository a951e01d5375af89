use Rattle.std.proofs.Common.{◌≡◌, ◌∙◌, ◌<◌, Some, ap, length, refl, subst, sym}
use Rattle.std.proofs.lemmas.List.{get_or-map, length-map}
use Rattle.std.proofs.lemmas.Option.{slice_get-get_or}
use Rattle.std.specs.Prelude.{slice_get}
use Rattle.cu_modules.specs.declared.modules.Module.{Module}
use Rattle.cu_modules.specs.Ordering.{module_of, modules_of}
use Rattle.cu_modules.specs.Reading.{HasModule}
use Rattle.cu_modules.specs.Scopes.{Named}
use Rattle.cu_names.specs.Texts.{IsKnown, text_of}
use Rattle.cu_translation.specs.ModuleNames.{module_at, no_module}
use Rattle.cu_toplevel.proofs.TopLemmas.{owner_is}
use Rattle.cu_toplevel.proofs.reading.Reading.of.Goals as goal

pub returns-clause-reads : goal.returns-clause-reads
returns-clause-reads c =
    let names = c.args.names.now in
    let modules = c.args.modules.now in
    let number = c.args.number in
    let ms = modules_of names modules in
    let m = c.index-modules-number.result in
    let has = subst (HasModule names) (sym c.index-modules-number.is) (c.requires.has number m c.requires.number) in
    let is : module_at ms number ≡ module_of names m = get_or-map (module_of names) modules number m no_module c.requires.number ∙ ap (module_of names) (sym c.index-modules-number.is) in
    let within : number < length ms = subst (λ n. number < n) (sym (length-map modules (module_of names))) c.requires.number in
    let there : slice_get ms number ≡ Some (module_at ms number) = slice_get-get_or ms number no_module within in
    record {
      table = refl;
      top = c.of.ensures.tells;
      number = refl;
      owner = owner_is names modules number m m.name c.requires.entities.differ c.requires.number (ap (λ (m : Module). m.name) c.index-modules-number.is) has.known;
      has = has;
      is = is;
      exports = c.exports.ensures names ms number (module_at ms number) c.requires.scopes (subst (IsKnown names) (sym c.name.ensures) has.known) there
          (ap (λ (n : Named). n.name) is ∙ ap (text_of names) (sym c.name.ensures));
    }
