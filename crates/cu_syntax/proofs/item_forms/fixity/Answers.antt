-- The side, the level, and the names of the list.
use Rattle.std.proofs.Common.{map}
use Rattle.cu_lex.specs.Reading.{position_of}
use Rattle.cu_syntax.specs.Names.{name_meaning}
use Rattle.cu_syntax.specs.SubtreeMeaning.{tree_of}
use Rattle.cu_syntax.proofs.ItemLemmas.{fixity_is}
use Rattle.cu_syntax.proofs.item_forms.fixity.Goals as goal

pub returns-clause-meaning : goal.returns-clause-meaning
returns-clause-meaning c = λ names.
    fixity_is c.args.tree.symbol (tree_of names c.args.tree) (tree_of names c.part.result) (tree_of names c.part-2.result) (tree_of names c.part-3.result) (position_of c.place.result)
    c.side-side.result c.level-level.result (map (name_meaning names) c.in_ok-operators.operators.items) c.requires (c.args.tree.fits names) (c.place.ensures.position names)
    (c.part.ensures.tree names) (c.side-side.ensures names) (c.part-2.ensures.tree names) (c.level-level.ensures names) (c.part-3.ensures.tree names) (c.in_ok-operators.ensures.meaning names)

pub returns-clause-owned : goal.returns-clause-owned
returns-clause-owned c = λ owner names whole. (c.place.ensures.owned owner names whole, c.in_ok-operators.ensures.owned owner names (c.part-3.ensures.owned owner names whole))
