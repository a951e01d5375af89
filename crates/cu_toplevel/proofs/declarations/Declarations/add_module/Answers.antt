use Rattle.std.proofs.Common.{subst}
use Rattle.std.specs.Prelude.{OnOk}
use Rattle.cu_modules.specs.Ordering.{module_of}
use Rattle.cu_names.specs.declared.names.NameId.{NameId}
use Rattle.cu_names.specs.Texts.{text_of}
use Rattle.cu_toplevel.specs.Declarations.{AreListed, Lists}
use Rattle.cu_toplevel.specs.Inside.Gathering.{and_given}
use Rattle.cu_toplevel.proofs.DeclarationLemmas.{parts_are}
use Rattle.cu_toplevel.proofs.declarations.Declarations.add_module.Goals as goal

pub returns : goal.returns
returns c = λ before differ has.
    let names = c.args.names.now in
    let given = subst (λ (o : NameId). AreListed names (and_given (text_of names o) before) c.add_given.new.self) c.name.ensures (c.in_ok-add_given.ensures before differ has) in
    subst (λ (l : Lists). OnOk c.add_functions.result (AreListed names l c.add_functions.new.self)) (parts_are (module_of names c.args.module.now) before)
    (c.add_functions.ensures names _ differ c.requires.has (c.in_ok-add_items.ensures names _ differ c.requires.has given))
