-- The digit, or 9.
use Rattle.cu_syntax.specs.SubtreeMeaning.{tree_of}
use Rattle.cu_syntax.proofs.ItemLemmas.{level_none, level_there}
use Rattle.cu_syntax.proofs.item_forms.level.Goals as goal

pub returns-in-Some : goal.returns-in-Some
returns-in-Some c = λ names.
    level_there (tree_of names c.args.tree) (tree_of names c.in-Some.digit) c.digit.result (c.in-Some.ensures.tree names) (c.digit.ensures names)

pub returns-in-None : goal.returns-in-None
returns-in-None c = λ names. level_none (tree_of names c.args.tree) (c.in-None.ensures.none names)
