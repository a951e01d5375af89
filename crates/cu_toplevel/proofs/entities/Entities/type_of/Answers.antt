use Rattle.std.proofs.Common.{◌∙◌, ap, sym}
use Rattle.std.specs.Option.{option_map}
use Rattle.cu_names.specs.Texts.{text_of}
use Rattle.cu_toplevel.specs.Listings.{numbered_meaning}
use Rattle.cu_translation.specs.ModuleNames.{synonym_named, type_named}
use Rattle.cu_translation.specs.Numbered.{all_synonyms, numbered}
use Rattle.cu_toplevel.proofs.entities.Entities.type_of.Goals as goal

pub returns-in-Some : goal.returns-in-Some
returns-in-Some c = λ names modules owner name has.
    let o = text_of names c.args.owner in
    let n = text_of names c.args.name in
    let found = ap (option_map numbered_meaning) (sym c.in-Some.is) ∙ c.find.ensures names _ owner name has.declared.types in
    ap (λ x. type_named x (synonym_named (numbered o n (all_synonyms modules)))) found

pub returns-in-None : goal.returns-in-None
returns-in-None c = λ names modules owner name has.
    let o = text_of names c.args.owner in
    let n = text_of names c.args.name in
    let found = ap (option_map numbered_meaning) (sym c.in-None.is) ∙ c.find.ensures names _ owner name has.declared.types in
    c.synonym_of.ensures names modules owner name has ∙ ap (λ x. type_named x (synonym_named (numbered o n (all_synonyms modules)))) found
