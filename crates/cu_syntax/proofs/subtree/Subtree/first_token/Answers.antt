-- The first leaf that has a token is the first one of the tree.
use Rattle.std.proofs.Common.{[], None, ◌≡◌, ap, ◌∙◌}
use Rattle.std.proofs.Math.ListN.{drop_of_length-le}
use Rattle.cu_lex.specs.Reading.{lexeme_of}
use Rattle.cu_peg.specs.Spelling.{read}
use Rattle.cu_syntax.specs.Reading.{first_token}
use Rattle.cu_syntax.specs.Subtrees.{over}
use Rattle.cu_syntax.proofs.LeafLemmas.{first_leaf, first_token_of, leaf_here, leaf_later}
use Rattle.cu_syntax.proofs.TokenLaw.{token_there}
use Rattle.cu_syntax.proofs.SplitLemmas.{lexemes}
use Rattle.cu_syntax.proofs.subtree.Subtree.first_token.Goals as goal

pub loop-node-init : goal.loop-node-init
loop-node-init c = λ names. first_token_of (lexemes names c.args.self.tokens.now) c.args.self.nodes.now c.args.self.spelled

pub returns-in-Some-clause-token : goal.returns-in-Some-clause-token
returns-in-Some-clause-token c = λ names.
    leaf_here (lexeme_of names) c.args.self.tokens.now c.args.self.nodes.now c.loop-node.node-index _ c.token_of.result c.in-Some.token _ c.loop-node-test.true
    (c.loop-node.invariant names) c.token_of.ensures c.in-Some.is

pub loop-node-preserved : goal.loop-node-preserved
loop-node-preserved c = λ names.
    leaf_later (lexeme_of names) c.args.self.tokens.now c.args.self.nodes.now c.loop-node.node-index _ c.token_of.result _ c.loop-node-test.true
    (c.loop-node.invariant names) c.token_of.ensures c.in_default.is

pub unreachable-requires : goal.unreachable-requires
unreachable-requires c =
    let text = lexemes [] c.args.self.tokens.now in
    let none : first_token (over text (read c.args.self.nodes.now)) ≡ None = c.loop-node.invariant [] ∙ ap (first_leaf text) (drop_of_length-le c.args.self.nodes.now c.loop-node-test.false) in
    token_there c.args.self.symbol (over text (read c.args.self.nodes.now)) c.requires (c.args.self.fits []) none
