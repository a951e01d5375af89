-- The first node is a leaf.
use Rattle.std.proofs.Common.{[]}
use Rattle.cu_lex.specs.Reading.{lexeme_of}
use Rattle.cu_syntax.proofs.LeafLemmas.{token_is, token_missing}
use Rattle.cu_syntax.proofs.subtree.Subtree.token.Goals as goal

pub unreachable-requires : goal.unreachable-requires
unreachable-requires c =
    token_missing (lexeme_of []) c.args.self.tokens.now c.args.self.symbol c.args.self.nodes.now _ c.token_of.result c.requires c.args.self.spelled (c.args.self.fits []) c.token_of.ensures c.in_default.is

pub returns-clause-token : goal.returns-clause-token
returns-clause-token c = λ names.
    token_is (lexeme_of names) c.args.self.tokens.now c.args.self.symbol c.args.self.nodes.now _ c.token_of.result c.in-Some.token c.requires c.args.self.spelled (c.args.self.fits names) c.token_of.ensures c.in-Some.is
