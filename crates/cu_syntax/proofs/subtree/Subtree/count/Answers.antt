-- Each tree that is passed over counts one.
use Rattle.std.proofs.Common.{rules, ◌≡◌, [], ap, arith, length, sym, ◌∙◌}
use Rattle.std.proofs.lemmas.List.{nil_from_length}
use Rattle.cu_peg.specs.Spelling.{read, read_all}
use Rattle.cu_syntax.specs.Subtrees.{parts_in}
use Rattle.cu_syntax.specs.Table.{rule_of}
use Rattle.cu_syntax.proofs.NodeLemmas.{reads_all}
use Rattle.cu_syntax.proofs.RepeatLemmas.{count_after, count_end, count_small, count_trees, counted, fewer_left, others_spelled, parts_spelled, repeated_no_choice, repeated_no_leaf}
use Rattle.cu_syntax.proofs.SplitLemmas.{lexemes}
use Rattle.cu_syntax.proofs.subtree.Subtree.count.Goals as goal

pub parts-left-requires-clause-leaf : goal.parts-left-requires-clause-leaf
parts-left-requires-clause-leaf c = repeated_no_leaf (rule_of c.args.self.symbol) c.requires

pub parts-left-requires-clause-choice : goal.parts-left-requires-clause-choice
parts-left-requires-clause-choice c = repeated_no_choice (rule_of c.args.self.symbol) c.requires

pub loop-left-init : goal.loop-left-init
loop-left-init c = record {
  spelled = parts_spelled (read c.args.self.nodes.now) c.parts-left.result.now c.parts-left.ensures;
  total =
      let e = ap (λ nodes. count_trees (read_all nodes)) c.parts-left.ensures ∙ ap count_trees (reads_all (parts_in (read c.args.self.nodes.now))) in
      omega (arith, e);
}

pub overflow_add-count : goal.overflow_add-count
overflow_add-count c =
    let h = c.is_empty.ensures in
    let k = c.loop-left-test.true in
    let some : ¬ (c.loop-left.left.now ≡ []) = search rules in
    let step = count_after c.loop-left.left.now c.first_tree.result.1.now some c.loop-left.invariant.spelled c.first_tree.ensures.others in
    let small = count_small c.args.self.nodes.now c.args.self.spelled in
    let total = c.loop-left.invariant.total in
    search (rules, arith)

pub loop-left-smaller : goal.loop-left-smaller
loop-left-smaller c =
    let h = c.is_empty.ensures in
    let k = c.loop-left-test.true in
    let some : ¬ (c.loop-left.left.now ≡ []) = search rules in
    fewer_left c.loop-left.left.now c.first_tree.result.1.now some c.loop-left.invariant.spelled c.first_tree.ensures.others

pub loop-left-preserved : goal.loop-left-preserved
loop-left-preserved c =
    let h = c.is_empty.ensures in
    let k = c.loop-left-test.true in
    let some : ¬ (c.loop-left.left.now ≡ []) = search rules in
    let step = count_after c.loop-left.left.now c.first_tree.result.1.now some c.loop-left.invariant.spelled c.first_tree.ensures.others in
    record {
      spelled = others_spelled c.loop-left.left.now c.first_tree.result.1.now c.first_tree.ensures.others;
      total = omega (arith, step, c.loop-left.invariant.total);
    }

pub returns-clause-count : goal.returns-clause-count
returns-clause-count c = λ names.
    let h = c.is_empty.ensures in
    let k = c.loop-left-test.false in
    let zero : length c.loop-left.left.now ≡ 0 = search rules in
    let none : c.loop-left.left.now ≡ [] = nil_from_length c.loop-left.left.now zero in
    count_end c.loop-left.left.now c.loop-left.count (count_trees (parts_in (read c.args.self.nodes.now))) none c.loop-left.invariant.total
    ∙ sym (counted c.args.self.symbol (lexemes names c.args.self.tokens.now) c.args.self.nodes.now c.requires (c.args.self.fits names))

pub returns-clause-small : goal.returns-clause-small
returns-clause-small c =
    let h = c.is_empty.ensures in
    let k = c.loop-left-test.false in
    let zero : length c.loop-left.left.now ≡ 0 = search rules in
    let none : c.loop-left.left.now ≡ [] = nil_from_length c.loop-left.left.now zero in
    let e = count_end c.loop-left.left.now c.loop-left.count (count_trees (parts_in (read c.args.self.nodes.now))) none c.loop-left.invariant.total in
    omega (arith, e, count_small c.args.self.nodes.now c.args.self.spelled)
