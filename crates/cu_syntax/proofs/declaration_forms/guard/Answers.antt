-- The condition, and the expression after the sign.
use Rattle.cu_lex.specs.Reading.{position_of}
use Rattle.cu_syntax.specs.SubtreeMeaning.{tree_of}
use Rattle.cu_syntax.proofs.DeclarationLemmas.{guard_is}
use Rattle.cu_syntax.proofs.OwnerLemmas.{same_part}
use Rattle.cu_syntax.proofs.declaration_forms.guard.Goals as goal

pub returns-clause-meaning : goal.returns-clause-meaning
returns-clause-meaning c = λ names rest.
    guard_is names c.args.tree.symbol (tree_of names c.args.tree) c.part.result c.part-2.result (position_of c.place.result) c.new.result c.new-2.result rest c.requires
    (c.args.tree.fits names) (c.place.ensures.position names) c.new.ensures c.part.ensures.symbol (c.part.ensures.tree names) c.new-2.ensures c.part-2.ensures.symbol (c.part-2.ensures.tree names)

pub returns-clause-owned : goal.returns-clause-owned
returns-clause-owned c = λ owner names whole. (c.place.ensures.owned owner names whole, same_part owner names c.part.result c.new.result.tree c.new.ensures (c.part.ensures.owned owner names whole), same_part owner names c.part-2.result c.new-2.result.tree c.new-2.ensures (c.part-2.ensures.owned owner names whole))
