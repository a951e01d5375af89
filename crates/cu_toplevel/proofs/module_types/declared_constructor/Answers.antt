use Rattle.std.proofs.Common.{◌∙◌, ap, map, subst, sym}
use Rattle.std.specs.List.{All}
use Rattle.cu_names.specs.Texts.{text_of}
use Rattle.cu_syntax.specs.Names.{name_meaning}
use Rattle.cu_syntax.specs.Owners.{TypeIsOf}
use Rattle.cu_syntax.specs.Types.{types_meaning}
use Rattle.cu_translation.specs.ModuleTypes.{constructor}
use Rattle.cu_translation.specs.TypeTable.{fields_of}
use Rattle.cu_uses.specs.Binders.{texts}
use Rattle.cu_toplevel.proofs.ReadingLemmas.{number_known}
use Rattle.cu_toplevel.proofs.module_types.declared_constructor.Goals as goal

pub returns : goal.returns
returns c = λ owner names r has parameters own.
    let d = c.args.declared.now in
    let text = text_of names d.name.text in
    let all = subst (All (TypeIsOf owner names)) (sym c.as_slice.ensures.value) own.2 in
    c.constructor.ensures names r text has (number_known names d.name.text has.top.entities.differ own.1.text)
    ∙ ap (constructor r text) (c.in_ok-fields.ensures owner names r.names has.top parameters all
    ∙ ap (λ ts. fields_of r.names (texts (map (name_meaning names) c.args.parameters.now)) (types_meaning names ts)) c.as_slice.ensures.value)
