-- The word that was taken says the side.
use Rattle.std.proofs.Common.{ap, sym, ◌∙◌}
use Rattle.cu_syntax.specs.SubtreeMeaning.{tree_of}
use Rattle.cu_syntax.proofs.ItemLemmas.{neither, side_taken, side_word}
use Rattle.cu_syntax.proofs.item_forms.side.Goals as goal

pub returns-in-Infixl : goal.returns-in-Infixl
returns-in-Infixl c = λ names.
    sym (ap side_word c.in-Infixl.is)
    ∙ side_taken c.args.tree.symbol (tree_of names c.args.tree) c.chosen.result.symbol (tree_of names c.chosen.result) c.requires (c.args.tree.fits names) (c.chosen.ensures.tree names)

pub returns-in-Infixr : goal.returns-in-Infixr
returns-in-Infixr c = λ names.
    sym (ap side_word c.in-Infixr.is)
    ∙ side_taken c.args.tree.symbol (tree_of names c.args.tree) c.chosen.result.symbol (tree_of names c.chosen.result) c.requires (c.args.tree.fits names) (c.chosen.ensures.tree names)

pub returns-in_default : goal.returns-in_default
returns-in_default c = λ names.
    neither c.chosen.result.symbol c.in_default.not-Infixl c.in_default.not-Infixr
    ∙ side_taken c.args.tree.symbol (tree_of names c.args.tree) c.chosen.result.symbol (tree_of names c.chosen.result) c.requires (c.args.tree.fits names) (c.chosen.ensures.tree names)
