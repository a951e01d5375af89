-- A list type has its element between the brackets.
use Rattle.cu_lex.specs.Reading.{position_of}
use Rattle.cu_syntax.specs.SubtreeMeaning.{tree_of}
use Rattle.cu_syntax.proofs.TypeForms.{list_with}
use Rattle.cu_syntax.proofs.OwnerLemmas.{same_part}
use Rattle.cu_syntax.proofs.type_forms.list.Goals as goal

pub returns-clause-meaning : goal.returns-clause-meaning
returns-clause-meaning c = λ names.
    list_with names c.args.tree.symbol (tree_of names c.args.tree) (position_of c.place.result) c.part.result c.new-element.result c.requires (c.args.tree.fits names) (c.place.ensures.position names)
    c.new-element.ensures c.part.ensures.symbol (c.part.ensures.tree names)

pub returns-clause-owned : goal.returns-clause-owned
returns-clause-owned c = λ owner names whole. (c.place.ensures.owned owner names whole, (same_part owner names c.part.result c.new-element.result.tree c.new-element.ensures (c.part.ensures.owned owner names whole)))
