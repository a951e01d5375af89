use Rattle.std.proofs.Common.{◌≡◌, ◌∙◌, [], Option, Some, ap, subst}
use Rattle.std.proofs.lemmas.Option.{get_or_from_slice_get, slice_get_within}
use Rattle.std.specs.Prelude.{IfSome, slice_get}
use Rattle.cu_names.specs.declared.names.NameId.{NameId}
use Rattle.cu_names.specs.Texts.{text_of}
use Rattle.cu_translation.specs.ModuleNames.{value_of}
use Rattle.cu_translation.specs.Parts.{constructor_alone}
use Rattle.cu_toplevel.proofs.SpecialLemmas.{absent_constructor}
use Rattle.cu_toplevel.proofs.entities.Entities.constructor_in.Goals as goal

pub returns-in-Some : goal.returns-in-Some
returns-in-Some c = λ modules known has.
    let names = c.args.names.now in
    let text = c.args.text.now in
    let at = subst (λ (o : Option NameId). IfSome o (λ id. slice_get names id.0 ≡ Some text)) c.in-Some.is c.named.ensures.is in
    c.constructor_alone.ensures ∙ ap constructor_alone (c.value_of.ensures names modules known (slice_get_within names c.in-Some.name.0 text at) has
    ∙ ap (value_of modules (text_of names c.args.owner)) (get_or_from_slice_get names c.in-Some.name.0 text [] at))

pub returns-in-None : goal.returns-in-None
returns-in-None c = λ modules known has. absent_constructor c.args.names.now modules c.args.self.now (text_of c.args.names.now c.args.owner) c.args.text.now (c.named.ensures.absent c.in-None.is) has
