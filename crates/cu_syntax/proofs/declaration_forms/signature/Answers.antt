-- The functions are the names of the list, and the type stands after the colons.
use Rattle.std.proofs.Common.{map}
use Rattle.cu_lex.specs.Reading.{position_of}
use Rattle.cu_syntax.specs.Names.{name_meaning}
use Rattle.cu_syntax.specs.SubtreeMeaning.{tree_of}
use Rattle.cu_syntax.proofs.DeclarationLemmas.{signature_is}
use Rattle.cu_syntax.proofs.OwnerLemmas.{same_part}
use Rattle.cu_syntax.proofs.declaration_forms.signature.Goals as goal

pub returns-clause-meaning : goal.returns-clause-meaning
returns-clause-meaning c = λ names.
    signature_is names c.args.tree.symbol (tree_of names c.args.tree) (tree_of names c.part.result) c.part-2.result (position_of c.place.result)
    (map (name_meaning names) c.in_ok-functions.functions.items) c.new-term.result c.requires (c.args.tree.fits names) (c.place.ensures.position names) (c.part.ensures.tree names)
    (c.in_ok-functions.ensures.meaning names) c.new-term.ensures c.part-2.ensures.symbol (c.part-2.ensures.tree names)

pub returns-clause-owned : goal.returns-clause-owned
returns-clause-owned c = λ owner names whole. (c.place.ensures.owned owner names whole, c.in_ok-functions.ensures.owned owner names (c.part.ensures.owned owner names whole), same_part owner names c.part-2.result c.new-term.result.tree c.new-term.ensures (c.part-2.ensures.owned owner names whole))
