-- The patterns between the parentheses.
use Rattle.cu_lex.specs.Reading.{position_of}
use Rattle.cu_syntax.specs.SubtreeMeaning.{tree_of}
use Rattle.cu_syntax.proofs.PatternForms.{tuple_of_patterns}
use Rattle.cu_syntax.proofs.pattern_forms.tuple.Goals as goal

pub returns-clause-meaning : goal.returns-clause-meaning
returns-clause-meaning c = λ names.
    tuple_of_patterns names c.args.tree.symbol (tree_of names c.args.tree) (tree_of names c.part.result) (position_of c.place.result) c.in_ok-components.components.items c.requires.symbol
    (c.args.tree.fits names) (c.requires.more names) (c.place.ensures.position names) (c.part.ensures.tree names) (c.in_ok-components.ensures.trees names) c.in_ok-components.ensures.symbols

pub returns-clause-owned : goal.returns-clause-owned
returns-clause-owned c = λ owner names whole. (c.place.ensures.owned owner names whole, c.in_ok-components.ensures.owned owner names (c.part.ensures.owned owner names whole))
