use Rattle.std.proofs.Common.{◌∙◌, ap, subst, sym}
use Rattle.std.proofs.lemmas.List.{get_or-map}
use Rattle.cu_modules.specs.Ordering.{module_of}
use Rattle.cu_modules.specs.Reading.{HasModule}
use Rattle.cu_translation.specs.ModuleNames.{no_module}
use Rattle.cu_desugar.proofs.modules.Modules.module.Goals as goal

pub returns-clause-is : goal.returns-clause-is
returns-clause-is c =
    let names = c.args.self.names.now in
    let modules = c.args.self.modules.now in
    let m = c.index-modules-number.result in
    get_or-map (module_of names) modules c.args.number m no_module c.requires.number ∙ ap (module_of names) (sym c.index-modules-number.is)

pub returns-clause-has : goal.returns-clause-has
returns-clause-has c =
    let m = c.index-modules-number.result in
    subst (HasModule c.args.self.names.now) (sym c.index-modules-number.is) (c.requires.known.has c.args.number m c.requires.number)
