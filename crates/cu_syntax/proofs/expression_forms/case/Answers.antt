-- The word, the subject and the alternatives.
use Rattle.cu_lex.specs.Reading.{position_of}
use Rattle.cu_syntax.specs.SubtreeMeaning.{tree_of}
use Rattle.cu_syntax.proofs.ExpressionParts.{case_is}
use Rattle.cu_syntax.proofs.OwnerLemmas.{same_part}
use Rattle.cu_syntax.proofs.expression_forms.case.Goals as goal

pub returns-clause-meaning : goal.returns-clause-meaning
returns-clause-meaning c = λ names.
    case_is names c.args.tree.symbol (tree_of names c.args.tree) (tree_of names c.part.result) (tree_of names c.part-3.result) c.part-2.result (position_of c.place.result) c.word-word.result c.new-subject.result c.in_ok-alternatives.alternatives.items c.requires (c.args.tree.fits names) (c.place.ensures.position names)
    (c.part.ensures.tree names) (c.word-word.ensures names) c.new-subject.ensures c.part-2.ensures.symbol (c.part-2.ensures.tree names) (c.part-3.ensures.tree names) (c.in_ok-alternatives.ensures.meaning names)

pub returns-clause-owned : goal.returns-clause-owned
returns-clause-owned c = λ owner names whole. (c.place.ensures.owned owner names whole, same_part owner names c.part-2.result c.new-subject.result.tree c.new-subject.ensures (c.part-2.ensures.owned owner names whole), c.in_ok-alternatives.ensures.owned owner names (c.part-3.ensures.owned owner names whole))
