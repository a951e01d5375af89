use Rattle.std.proofs.Common.{◌∙◌, Option, ap, sym}
use Rattle.std.specs.Option.{option_map}
use Rattle.cu_names.specs.Texts.{text_of}
use Rattle.cu_toplevel.proofs.EntityLemmas.{set_arity_is}
use Rattle.cu_toplevel.specs.Listings.{numbered_meaning}
use Rattle.cu_translation.specs.ModuleNames.{set_referent}
use Rattle.cu_translation.specs.Numbered.{Numbered}
use Rattle.cu_toplevel.proofs.entities.Entities.set_function_of.Goals as goal

pub returns-in-Some : goal.returns-in-Some
returns-in-Some c = λ names modules owner name has.
    let o = text_of names c.args.owner in
    let n = text_of names c.args.name in
    let found = ap (option_map numbered_meaning) (sym c.in-Some.is) ∙ c.find.ensures names _ owner name has.sets in
    ap (λ (x : Option Numbered). set_referent (option_map (λ (m : Numbered). m.arity) x)) found ∙ ap set_referent (set_arity_is o n)

pub returns-in-None : goal.returns-in-None
returns-in-None c = λ names modules owner name has.
    let o = text_of names c.args.owner in
    let n = text_of names c.args.name in
    let found = ap (option_map numbered_meaning) (sym c.in-None.is) ∙ c.find.ensures names _ owner name has.sets in
    ap (λ (x : Option Numbered). set_referent (option_map (λ (m : Numbered). m.arity) x)) found ∙ ap set_referent (set_arity_is o n)
