-- The type's name, its parameters, and the type after the equals sign.
use Rattle.std.proofs.Common.{map}
use Rattle.cu_lex.specs.Reading.{position_of}
use Rattle.cu_syntax.specs.Names.{name_meaning}
use Rattle.cu_syntax.specs.SubtreeMeaning.{tree_of}
use Rattle.cu_syntax.proofs.ItemLemmas.{synonym_is}
use Rattle.cu_syntax.proofs.OwnerLemmas.{same_part}
use Rattle.cu_syntax.proofs.item_forms.synonym.Goals as goal

pub returns-clause-meaning : goal.returns-clause-meaning
returns-clause-meaning c = λ names.
    synonym_is names c.args.tree.symbol (tree_of names c.args.tree) (tree_of names c.part.result) (tree_of names c.part-2.result) c.part-3.result (position_of c.place.result)
    (name_meaning names c.name-name.result) (map (name_meaning names) c.in_ok-parameters.parameters.items) c.new-term.result c.requires (c.args.tree.fits names) (c.place.ensures.position names)
    (c.part.ensures.tree names) (c.name-name.ensures.meaning names) (c.part-2.ensures.tree names) (c.in_ok-parameters.ensures.meaning names) c.new-term.ensures c.part-3.ensures.symbol
    (c.part-3.ensures.tree names)

pub returns-clause-owned : goal.returns-clause-owned
returns-clause-owned c = λ owner names whole. (c.place.ensures.owned owner names whole, c.name-name.ensures.owned owner names (c.part.ensures.owned owner names whole), c.in_ok-parameters.ensures.owned owner names (c.part-2.ensures.owned owner names whole), same_part owner names c.part-3.result c.new-term.result.tree c.new-term.ensures (c.part-3.ensures.owned owner names whole))
