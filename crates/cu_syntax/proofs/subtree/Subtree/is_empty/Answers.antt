-- There is a part where there is a node after the first.
use Rattle.std.proofs.Common.{sym, ◌∙◌}
use Rattle.cu_syntax.specs.Table.{rule_of}
use Rattle.cu_syntax.proofs.RepeatLemmas.{emptiness, repeated_no_choice, repeated_no_leaf}
use Rattle.cu_syntax.proofs.SplitLemmas.{lexemes}
use Rattle.cu_syntax.proofs.subtree.Subtree.is_empty.Goals as goal

pub parts-requires-clause-leaf : goal.parts-requires-clause-leaf
parts-requires-clause-leaf c = repeated_no_leaf (rule_of c.args.self.symbol) c.requires

pub parts-requires-clause-choice : goal.parts-requires-clause-choice
parts-requires-clause-choice c = repeated_no_choice (rule_of c.args.self.symbol) c.requires

pub returns : goal.returns
returns c = λ names.
    c.is_empty.ensures ∙ sym (emptiness c.args.self.symbol (lexemes names c.args.self.tokens.now) c.args.self.nodes.now c.parts.result.now c.requires (c.args.self.fits names) c.parts.ensures)
