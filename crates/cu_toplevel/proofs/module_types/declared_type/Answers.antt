use Rattle.std.proofs.Common.{◌∙◌, ap₂, sym}
use Rattle.std.proofs.lemmas.List.{length-map}
use Rattle.cu_names.specs.Texts.{text_of}
use Rattle.cu_syntax.specs.Names.{name_meaning}
use Rattle.cu_translation.specs.ModuleTypes.{data_type}
use Rattle.cu_toplevel.proofs.ReadingLemmas.{number_known}
use Rattle.cu_toplevel.proofs.module_types.declared_type.Goals as goal

pub returns : goal.returns
returns c = λ owner names r has own parameters all.
    let text = text_of names c.args.name.text in
    c.data_type.ensures names r text has (number_known names c.args.name.text has.top.entities.differ own.text)
    ∙ ap₂ (data_type r text) (c.in_ok-arity.ensures ∙ sym (length-map c.args.parameters.now (name_meaning names))) (c.in_ok-constructors.ensures owner names r has parameters all)
