-- The tree's nodes spell it.
use Rattle.std.proofs.Common.{ap₂, ◌∙◌}
use Rattle.cu_syntax.specs.Inside.Fits.{fits}
use Rattle.cu_syntax.specs.Subtrees.{over}
use Rattle.cu_syntax.proofs.NodeLemmas.{reads, spells}
use Rattle.cu_syntax.proofs.SplitLemmas.{lexemes}
use Rattle.cu_syntax.proofs.text.Parsed.root.Goals as goal

pub invariant_of-result : goal.invariant_of-result
invariant_of-result c = record {
  spelled = spells c.nodes.result.now c.args.self.now.tree c.nodes.ensures;
  fits = λ names.
      ap₂ (λ tokens tree. fits c.args.self.now.symbol (over (lexemes names tokens) tree)) c.as_slice.ensures.value (reads c.nodes.result.now c.args.self.now.tree c.nodes.ensures)
      ∙ c.args.self.now.fits names;
}

pub returns-clause-tree : goal.returns-clause-tree
returns-clause-tree c = λ names.
    ap₂ (λ tokens tree. over (lexemes names tokens) tree) c.as_slice.ensures.value (reads c.nodes.result.now c.args.self.now.tree c.nodes.ensures)
