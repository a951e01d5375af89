-- The first alternative is the word that asks.
use Rattle.cu_syntax.specs.SubtreeMeaning.{tree_of}
use Rattle.cu_syntax.proofs.ExpressionParts.{flexible, rigid}
use Rattle.cu_syntax.proofs.expression_forms.word.Goals as goal

pub returns-in-Case : goal.returns-in-Case
returns-in-Case c = λ names.
    rigid c.args.tree.symbol (tree_of names c.args.tree) c.chosen.result.symbol (tree_of names c.chosen.result) c.requires (c.args.tree.fits names) (c.chosen.ensures.tree names) c.in-Case.is

pub returns-in_default : goal.returns-in_default
returns-in_default c = λ names.
    flexible c.args.tree.symbol (tree_of names c.args.tree) c.chosen.result.symbol (tree_of names c.chosen.result) c.requires (c.args.tree.fits names) (c.chosen.ensures.tree names) c.in_default.not-Case
