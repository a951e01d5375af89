-- The first pattern, and the operators with the patterns after them.
use Rattle.cu_lex.specs.Reading.{position_of}
use Rattle.cu_syntax.specs.SubtreeMeaning.{tree_of}
use Rattle.cu_syntax.proofs.PatternForms.{operators_are}
use Rattle.cu_syntax.proofs.OwnerLemmas.{same_part}
use Rattle.cu_syntax.proofs.pattern_forms.operators.Goals as goal

pub returns-clause-meaning : goal.returns-clause-meaning
returns-clause-meaning c = λ names.
    operators_are names c.args.tree.symbol (tree_of names c.args.tree) c.part-first.result (tree_of names c.part.result) c.part.result.symbol (position_of c.place.result) c.new.result
    c.in_ok-rest.rest.items c.requires.symbol (c.args.tree.fits names) (c.requires.more names) c.part-first.ensures.symbol (c.part-first.ensures.tree names) c.new.ensures (c.place.ensures.position names)
    c.part.ensures.symbol (c.part.result.fits names) (c.part.ensures.tree names) (c.in_ok-rest.ensures.meaning names)

pub returns-clause-owned : goal.returns-clause-owned
returns-clause-owned c = λ owner names whole. (c.place.ensures.owned owner names (c.part-first.ensures.owned owner names whole), (same_part owner names c.part-first.result c.new.result.tree c.new.ensures (c.part-first.ensures.owned owner names whole)), c.in_ok-rest.ensures.owned owner names (c.part.ensures.owned owner names whole))
