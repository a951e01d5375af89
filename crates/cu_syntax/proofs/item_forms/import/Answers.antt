-- An import says what its parts say.
use Rattle.std.proofs.Common.{◌∙◌}
use Rattle.std.specs.Option.{option_map}
use Rattle.cu_lex.specs.Reading.{position_of}
use Rattle.cu_syntax.specs.Items.{import_list_meaning}
use Rattle.cu_syntax.specs.Names.{module_name_meaning}
use Rattle.cu_syntax.specs.SubtreeMeaning.{tree_of}
use Rattle.cu_syntax.proofs.ItemLemmas.{import_is, there_is}
use Rattle.cu_syntax.proofs.item_forms.import.Goals as goal

pub returns-clause-meaning : goal.returns-clause-meaning
returns-clause-meaning c = λ names.
    let word = tree_of names c.part.result in
    import_is c.args.tree.symbol (tree_of names c.args.tree) word (tree_of names c.part-2.result) (tree_of names c.part-3.result) (tree_of names c.part-4.result) (position_of c.place.result)
    c.is_some-qualified.result (module_name_meaning names c.module_name.result) (option_map (module_name_meaning names) c.alias.result)
    (option_map (import_list_meaning names) c.in_ok-imports.field-0) c.requires (c.args.tree.fits names) (c.place.ensures.position names) (c.part.ensures.tree names)
    (c.is_some-qualified.ensures ∙ there_is names word c.optional.result (c.optional.ensures.tree names) (c.optional.ensures.none names)) (c.part-2.ensures.tree names)
    (c.module_name.ensures.meaning names) (c.part-3.ensures.tree names) (c.alias.ensures.meaning names) (c.part-4.ensures.tree names) (c.in_ok-imports.ensures.meaning names)

pub returns-clause-owned : goal.returns-clause-owned
returns-clause-owned c = λ owner names whole. (c.place.ensures.owned owner names whole, c.module_name.ensures.owned owner names (c.part-2.ensures.owned owner names whole), c.alias.ensures.owned owner names (c.part-3.ensures.owned owner names whole), c.in_ok-imports.ensures.owned owner names (c.part-4.ensures.owned owner names whole))
