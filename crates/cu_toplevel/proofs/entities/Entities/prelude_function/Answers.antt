use Rattle.std.proofs.Common.{◌≡◌, ◌∙◌, Option, Some, ap, subst}
use Rattle.std.specs.Prelude.{IfSome, slice_get}
use Rattle.cu_modules.specs.BuiltInEntities.{prelude_name}
use Rattle.cu_names.specs.declared.names.NameId.{NameId}
use Rattle.cu_translation.specs.ModuleNames.{value_of}
use Rattle.cu_translation.specs.Parts.{function_in}
use Rattle.cu_toplevel.proofs.SpecialLemmas.{absent_function}
use Rattle.cu_toplevel.proofs.TopLemmas.{of_prelude}
use Rattle.cu_toplevel.proofs.entities.Entities.prelude_function.Goals as goal

pub returns-in-Some : goal.returns-in-Some
returns-in-Some c = λ modules has.
    let names = c.args.names.now in
    let text = c.args.text.now in
    let e = c.args.self.now in
    let at = subst (λ (o : Option NameId). IfSome o (λ id. slice_get names id.0 ≡ Some text)) c.in-Some.is c.named.ensures.is in
    of_prelude names modules e c.in-Some.name text (λ owner name. function_in (value_of modules owner name)) c.function_in.result has at
    (λ known known_name. c.function_in.ensures ∙ ap function_in (c.value_of.ensures names modules known known_name has))

pub returns-in-None : goal.returns-in-None
returns-in-None c = λ modules has. absent_function c.args.names.now modules c.args.self.now prelude_name c.args.text.now (c.named.ensures.absent c.in-None.is) has
