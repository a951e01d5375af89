-- The first node of a choice's tree has the number.
use Rattle.std.proofs.Common.{[]}
use Rattle.cu_syntax.proofs.FitLemmas.{chosen_form, not_chosen}
use Rattle.cu_syntax.proofs.SplitLemmas.{lexemes}
use Rattle.cu_syntax.proofs.subtree.Subtree.alternative.Goals as goal

pub unreachable-requires : goal.unreachable-requires
unreachable-requires c =
    not_chosen c.args.self.symbol (lexemes [] c.args.self.tokens.now) c.args.self.nodes.now _ c.requires c.args.self.spelled (c.args.self.fits []) c.in_default.not-Chosen

pub returns : goal.returns
returns c =
    chosen_form c.args.self.symbol (lexemes [] c.args.self.tokens.now) c.args.self.nodes.now _ c.in-Chosen.number c.requires c.args.self.spelled (c.args.self.fits []) c.in-Chosen.is
