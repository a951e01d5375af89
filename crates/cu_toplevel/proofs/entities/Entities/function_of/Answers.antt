use Rattle.std.proofs.Common.{◌∙◌, ap, sym}
use Rattle.std.specs.Option.{option_map}
use Rattle.cu_names.specs.Texts.{text_of}
use Rattle.cu_toplevel.specs.Listings.{numbered_meaning}
use Rattle.cu_translation.specs.ModuleNames.{function_referent, set_referent}
use Rattle.cu_translation.specs.Numbered.{set_arity}
use Rattle.cu_toplevel.proofs.entities.Entities.function_of.Goals as goal

pub returns-in-Some : goal.returns-in-Some
returns-in-Some c = λ names modules owner name has.
    let o = text_of names c.args.owner in
    let n = text_of names c.args.name in
    let found = ap (option_map numbered_meaning) (sym c.in-Some.is) ∙ c.find.ensures names _ owner name has.declared.functions in
    let other = set_referent (set_arity o n) in c.function.ensures other ∙ ap (λ x. function_referent x other) found

pub returns-in-None : goal.returns-in-None
returns-in-None c = λ names modules owner name has.
    let o = text_of names c.args.owner in
    let n = text_of names c.args.name in
    let found = ap (option_map numbered_meaning) (sym c.in-None.is) ∙ c.find.ensures names _ owner name has.declared.functions in
    c.set_function_of.ensures names modules owner name has ∙ ap (λ x. function_referent x (set_referent (set_arity o n))) found
