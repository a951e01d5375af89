-- The nodes after the first are those of what is there.
use Rattle.std.proofs.Common.{rules, ◌≡◌, [], ap, length, refl}
use Rattle.std.proofs.lemmas.List.{nil_from_length}
use Rattle.cu_syntax.specs.Subtrees.{is_choice, is_leaf}
use Rattle.cu_syntax.specs.Table.{Optional, rule_of}
use Rattle.cu_syntax.proofs.FitLemmas.{no_part, optional_found, optional_is}
use Rattle.cu_syntax.proofs.SplitLemmas.{lexemes}
use Rattle.cu_syntax.proofs.subtree.Subtree.optional.Goals as goal

pub parts-nodes-requires-clause-leaf : goal.parts-nodes-requires-clause-leaf
parts-nodes-requires-clause-leaf c = ap is_leaf (optional_is (rule_of c.args.self.symbol) c.args.symbol c.requires)

pub parts-nodes-requires-clause-choice : goal.parts-nodes-requires-clause-choice
parts-nodes-requires-clause-choice c = ap is_choice (optional_is (rule_of c.args.self.symbol) c.args.symbol c.requires)

pub returns-then-is_empty-clause-none : goal.returns-then-is_empty-clause-none
returns-then-is_empty-clause-none c = λ names.
    let h = c.is_empty.ensures in
    let k = c.if-is_empty.true in
    let zero : length c.parts-nodes.result.now ≡ 0 = search rules in
    no_part c.args.self.symbol (Optional c.args.symbol) (lexemes names c.args.self.tokens.now) c.args.self.nodes.now c.parts-nodes.result.now (optional_is (rule_of c.args.self.symbol) c.args.symbol c.requires) refl refl
    (c.args.self.fits names) c.parts-nodes.ensures (nil_from_length c.parts-nodes.result.now zero)

pub invariant_of-result : goal.invariant_of-result
invariant_of-result c =
    let h = c.is_empty.ensures in
    let k = c.if-is_empty.false in
    let some : ¬ (c.parts-nodes.result.now ≡ []) = search rules in
    record {
      spelled = (optional_found c.args.self.symbol c.args.symbol (lexemes [] c.args.self.tokens.now) c.args.self.nodes.now c.parts-nodes.result.now c.requires c.args.self.spelled (c.args.self.fits []) c.parts-nodes.ensures some).spelled;
      fits = λ names. (optional_found c.args.self.symbol c.args.symbol (lexemes names c.args.self.tokens.now) c.args.self.nodes.now c.parts-nodes.result.now c.requires c.args.self.spelled (c.args.self.fits names) c.parts-nodes.ensures some).fit;
    }

pub returns-clause-tree : goal.returns-clause-tree
returns-clause-tree c = λ names.
    let h = c.is_empty.ensures in
    let k = c.if-is_empty.false in
    let some : ¬ (c.parts-nodes.result.now ≡ []) = search rules in
    (optional_found c.args.self.symbol c.args.symbol (lexemes names c.args.self.tokens.now) c.args.self.nodes.now c.parts-nodes.result.now c.requires c.args.self.spelled (c.args.self.fits names) c.parts-nodes.ensures some).is

pub returns-clause-smaller : goal.returns-clause-smaller
returns-clause-smaller c =
    let h = c.is_empty.ensures in
    let k = c.if-is_empty.false in
    let some : ¬ (c.parts-nodes.result.now ≡ []) = search rules in
    (optional_found c.args.self.symbol c.args.symbol (lexemes [] c.args.self.tokens.now) c.args.self.nodes.now c.parts-nodes.result.now c.requires c.args.self.spelled (c.args.self.fits []) c.parts-nodes.ensures some).smaller
