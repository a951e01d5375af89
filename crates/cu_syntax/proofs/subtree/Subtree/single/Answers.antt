-- After the first tree nothing is left.
use Rattle.std.proofs.Common.{rules, ◌≡◌, [], ap, length, refl}
use Rattle.std.proofs.lemmas.List.{nil_from_length}
use Rattle.cu_syntax.specs.Subtrees.{is_single}
use Rattle.cu_syntax.specs.Table.{rule_of}
use Rattle.cu_syntax.proofs.FitLemmas.{no_part}
use Rattle.cu_syntax.proofs.RepeatLemmas.{part_repeated, repeated_no_choice, repeated_no_leaf, repeats, several, single_found}
use Rattle.cu_syntax.proofs.SplitLemmas.{lexemes}
use Rattle.cu_syntax.proofs.subtree.Subtree.single.Goals as goal

pub parts-nodes-requires-clause-leaf : goal.parts-nodes-requires-clause-leaf
parts-nodes-requires-clause-leaf c = repeated_no_leaf (rule_of c.args.self.symbol) (part_repeated (rule_of c.args.self.symbol) c.args.symbol c.requires)

pub parts-nodes-requires-clause-choice : goal.parts-nodes-requires-clause-choice
parts-nodes-requires-clause-choice c = repeated_no_choice (rule_of c.args.self.symbol) (part_repeated (rule_of c.args.self.symbol) c.args.symbol c.requires)

pub first_tree-requires-clause-trees : goal.first_tree-requires-clause-trees
first_tree-requires-clause-trees c =
    (repeats c.args.self.symbol c.args.symbol (lexemes [] c.args.self.tokens.now) c.args.self.nodes.now c.parts-nodes.result.now c.requires c.args.self.spelled (c.args.self.fits []) c.parts-nodes.ensures).spelled

pub returns-then-is_empty-clause-none : goal.returns-then-is_empty-clause-none
returns-then-is_empty-clause-none c = λ names.
    let h = c.is_empty.ensures in
    let k = c.if-is_empty.true in
    let zero : length c.parts-nodes.result.now ≡ 0 = search rules in
    let none : c.parts-nodes.result.now ≡ [] = nil_from_length c.parts-nodes.result.now zero in
    let r = part_repeated (rule_of c.args.self.symbol) c.args.symbol c.requires in
    ap is_single (no_part c.args.self.symbol (rule_of c.args.self.symbol) (lexemes names c.args.self.tokens.now) c.args.self.nodes.now c.parts-nodes.result.now refl (repeated_no_leaf (rule_of c.args.self.symbol) r)
    (repeated_no_choice (rule_of c.args.self.symbol) r) (c.args.self.fits names) c.parts-nodes.ensures none)

pub returns-then-not-is_empty-clause-none : goal.returns-then-not-is_empty-clause-none
returns-then-not-is_empty-clause-none c = λ names.
    let h = c.is_empty-2.ensures in
    let k = c.if-not-is_empty.true in
    let some : ¬ (c.first_tree.result.1.now ≡ []) = search rules in
    several c.args.self.symbol c.args.symbol (lexemes names c.args.self.tokens.now) c.args.self.nodes.now c.parts-nodes.result.now c.first_tree.result.1.now c.requires c.args.self.spelled (c.args.self.fits names) c.parts-nodes.ensures c.first_tree.ensures.others some

pub invariant_of-result : goal.invariant_of-result
invariant_of-result c =
    let h = c.is_empty.ensures in
    let k = c.if-is_empty.false in
    let some : ¬ (c.parts-nodes.result.now ≡ []) = search rules in
    let m = c.is_empty-2.ensures in
    let n = c.if-not-is_empty.false in
    let zero : length c.first_tree.result.1.now ≡ 0 = search rules in
    let none : c.first_tree.result.1.now ≡ [] = nil_from_length c.first_tree.result.1.now zero in
    record {
      spelled = (single_found c.args.self.symbol c.args.symbol (lexemes [] c.args.self.tokens.now) c.args.self.nodes.now c.parts-nodes.result.now c.first_tree.result.1.now c.requires c.args.self.spelled (c.args.self.fits []) c.parts-nodes.ensures some c.first_tree.ensures.others none).spelled;
      fits = λ names. (single_found c.args.self.symbol c.args.symbol (lexemes names c.args.self.tokens.now) c.args.self.nodes.now c.parts-nodes.result.now c.first_tree.result.1.now c.requires c.args.self.spelled (c.args.self.fits names) c.parts-nodes.ensures some c.first_tree.ensures.others none).fit;
    }

pub returns-clause-tree : goal.returns-clause-tree
returns-clause-tree c = λ names.
    let h = c.is_empty.ensures in
    let k = c.if-is_empty.false in
    let some : ¬ (c.parts-nodes.result.now ≡ []) = search rules in
    let m = c.is_empty-2.ensures in
    let n = c.if-not-is_empty.false in
    let zero : length c.first_tree.result.1.now ≡ 0 = search rules in
    let none : c.first_tree.result.1.now ≡ [] = nil_from_length c.first_tree.result.1.now zero in
    (single_found c.args.self.symbol c.args.symbol (lexemes names c.args.self.tokens.now) c.args.self.nodes.now c.parts-nodes.result.now c.first_tree.result.1.now c.requires c.args.self.spelled (c.args.self.fits names) c.parts-nodes.ensures some c.first_tree.ensures.others none).is

pub returns-clause-smaller : goal.returns-clause-smaller
returns-clause-smaller c =
    let h = c.is_empty.ensures in
    let k = c.if-is_empty.false in
    let some : ¬ (c.parts-nodes.result.now ≡ []) = search rules in
    let m = c.is_empty-2.ensures in
    let n = c.if-not-is_empty.false in
    let zero : length c.first_tree.result.1.now ≡ 0 = search rules in
    let none : c.first_tree.result.1.now ≡ [] = nil_from_length c.first_tree.result.1.now zero in
    (single_found c.args.self.symbol c.args.symbol (lexemes [] c.args.self.tokens.now) c.args.self.nodes.now c.parts-nodes.result.now c.first_tree.result.1.now c.requires c.args.self.spelled (c.args.self.fits []) c.parts-nodes.ensures some c.first_tree.ensures.others none).smaller
