-- The nodes after the first are those of the alternative.
use Rattle.std.proofs.Common.{◌-◌, [], drop, length, take}
use Rattle.std.proofs.lemmas.List.{take_rest}
use Rattle.cu_syntax.specs.declared.symbol.Symbol.TheVariants as symbol
use Rattle.cu_syntax.proofs.FitLemmas.{alternative_found, alternative_within}
use Rattle.cu_syntax.proofs.SplitLemmas.{lexemes}
use Rattle.cu_syntax.proofs.subtree.Subtree.chosen.Goals as goal

pub bounds-alternatives-alternative : goal.bounds-alternatives-alternative
bounds-alternatives-alternative c =
    alternative_within c.args.self.symbol c.alternatives.result.now (lexemes [] c.args.self.tokens.now) c.args.self.nodes.now c.alternative.result c.alternatives.ensures (c.args.self.fits []) c.alternative.ensures

pub invariant_of-result : goal.invariant_of-result
invariant_of-result c = record {
  spelled = (alternative_found c.args.self.symbol c.alternatives.result.now (lexemes [] c.args.self.tokens.now) c.args.self.nodes.now (take (length c.args.self.nodes.now - 1) (drop 1 c.args.self.nodes.now)) c.alternative.result symbol.VarId c.alternatives.ensures c.args.self.spelled (c.args.self.fits []) c.alternative.ensures (take_rest c.args.self.nodes.now 1)).spelled;
  fits = λ names. (alternative_found c.args.self.symbol c.alternatives.result.now (lexemes names c.args.self.tokens.now) c.args.self.nodes.now (take (length c.args.self.nodes.now - 1) (drop 1 c.args.self.nodes.now)) c.alternative.result symbol.VarId c.alternatives.ensures c.args.self.spelled (c.args.self.fits names) c.alternative.ensures (take_rest c.args.self.nodes.now 1)).fit;
}

pub returns-clause-tree : goal.returns-clause-tree
returns-clause-tree c = λ names. (alternative_found c.args.self.symbol c.alternatives.result.now (lexemes names c.args.self.tokens.now) c.args.self.nodes.now (take (length c.args.self.nodes.now - 1) (drop 1 c.args.self.nodes.now)) c.alternative.result symbol.VarId c.alternatives.ensures c.args.self.spelled (c.args.self.fits names) c.alternative.ensures (take_rest c.args.self.nodes.now 1)).takes

pub returns-clause-smaller : goal.returns-clause-smaller
returns-clause-smaller c = (alternative_found c.args.self.symbol c.alternatives.result.now (lexemes [] c.args.self.tokens.now) c.args.self.nodes.now (take (length c.args.self.nodes.now - 1) (drop 1 c.args.self.nodes.now)) c.alternative.result symbol.VarId c.alternatives.ensures c.args.self.spelled (c.args.self.fits []) c.alternative.ensures (take_rest c.args.self.nodes.now 1)).smaller
