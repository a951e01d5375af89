-- The nodes after the first are those of the parts.
use Rattle.std.proofs.Common.{[], ap, drop, refl, sym, ◌∙◌}
use Rattle.std.proofs.lemmas.List.{take_rest}
use Rattle.cu_peg.specs.Spelling.{read}
use Rattle.cu_syntax.specs.Table.{rule_of}
use Rattle.cu_syntax.proofs.FitLemmas.{parts_by}
use Rattle.cu_syntax.proofs.SplitLemmas.{lexemes}
use Rattle.cu_syntax.proofs.subtree.Subtree.parts.Goals as goal

pub returns : goal.returns
returns c =
    let h = parts_by c.args.self.symbol (rule_of c.args.self.symbol) (lexemes [] c.args.self.tokens.now) (read c.args.self.nodes.now) refl c.requires.leaf c.requires.choice (c.args.self.fits []) in
    take_rest c.args.self.nodes.now 1 ∙ ap (drop 1) (sym c.args.self.spelled) ∙ h.after
