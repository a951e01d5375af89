-- A constructor, and the patterns that are repeated after it.
use Rattle.cu_lex.specs.Reading.{position_of}
use Rattle.cu_syntax.specs.Names.{name_meaning}
use Rattle.cu_syntax.specs.SubtreeMeaning.{tree_of}
use Rattle.cu_syntax.proofs.PatternForms.{application_is}
use Rattle.cu_syntax.proofs.pattern_forms.application.Goals as goal

pub returns-clause-meaning : goal.returns-clause-meaning
returns-clause-meaning c = λ names.
    application_is names c.args.tree.symbol (tree_of names c.args.tree) (tree_of names c.part.result) (tree_of names c.part-2.result) (position_of c.place.result)
    (name_meaning names c.name-name.result) c.in_ok-arguments.arguments.items c.requires (c.args.tree.fits names) (c.place.ensures.position names) (c.part.ensures.tree names)
    (c.name-name.ensures.meaning names) (c.part-2.ensures.tree names) (c.in_ok-arguments.ensures.trees names) c.in_ok-arguments.ensures.symbols

pub returns-clause-owned : goal.returns-clause-owned
returns-clause-owned c = λ owner names whole. (c.place.ensures.owned owner names whole, c.name-name.ensures.owned owner names (c.part.ensures.owned owner names whole), c.in_ok-arguments.ensures.owned owner names (c.part-2.ensures.owned owner names whole))
