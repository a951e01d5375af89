-- The variables are the names of the list.
use Rattle.std.proofs.Common.{map}
use Rattle.cu_lex.specs.Reading.{position_of}
use Rattle.cu_syntax.specs.Names.{name_meaning}
use Rattle.cu_syntax.specs.SubtreeMeaning.{tree_of}
use Rattle.cu_syntax.proofs.DeclarationLemmas.{free_is}
use Rattle.cu_syntax.proofs.declaration_forms.free.Goals as goal

pub returns-clause-meaning : goal.returns-clause-meaning
returns-clause-meaning c = λ names.
    free_is c.args.tree.symbol (tree_of names c.args.tree) (tree_of names c.part.result) (position_of c.place.result) (map (name_meaning names) c.in_ok-variables.variables.items) c.requires
    (c.args.tree.fits names) (c.place.ensures.position names) (c.part.ensures.tree names) (c.in_ok-variables.ensures.meaning names)

pub returns-clause-owned : goal.returns-clause-owned
returns-clause-owned c = λ owner names whole. (c.place.ensures.owned owner names whole, c.in_ok-variables.ensures.owned owner names (c.part.ensures.owned owner names whole))
