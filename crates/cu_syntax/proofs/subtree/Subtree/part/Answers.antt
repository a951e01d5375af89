-- Each tree that is passed over is that of a part before.
use Rattle.std.proofs.Common.{◌≡◌, [], ap, arith, ◌∙◌}
use Rattle.cu_peg.specs.Parse.{spelled_all}
use Rattle.cu_peg.specs.Spelling.{read}
use Rattle.cu_syntax.specs.Table.{rule_of}
use Rattle.cu_syntax.specs.Subtrees.{parts_in, sequence}
use Rattle.cu_syntax.proofs.FitLemmas.{earlier, next_left, part_found, part_left}
use Rattle.cu_syntax.proofs.NodeLemmas.{after_trees}
use Rattle.cu_syntax.proofs.SplitLemmas.{lexemes}
use Rattle.cu_syntax.proofs.subtree.Subtree.part.Goals as goal

pub first_tree-requires-clause-some : goal.first_tree-requires-clause-some
first_tree-requires-clause-some c =
    let p = earlier (sequence (rule_of c.args.self.symbol)) c.args.number c.loop.counter c.args.symbol c.requires (omega (arith, c.loop-test.true)) in
    (part_left c.args.self.symbol (lexemes [] c.args.self.tokens.now) c.args.self.nodes.now c.loop.left.now c.loop.counter p.0 p.1 c.args.self.spelled (c.args.self.fits []) c.loop.invariant).some

pub first_tree-requires-clause-trees : goal.first_tree-requires-clause-trees
first_tree-requires-clause-trees c =
    let p = earlier (sequence (rule_of c.args.self.symbol)) c.args.number c.loop.counter c.args.symbol c.requires (omega (arith, c.loop-test.true)) in
    (part_left c.args.self.symbol (lexemes [] c.args.self.tokens.now) c.args.self.nodes.now c.loop.left.now c.loop.counter p.0 p.1 c.args.self.spelled (c.args.self.fits []) c.loop.invariant).spelled

pub loop-preserved : goal.loop-preserved
loop-preserved c =
    let p = earlier (sequence (rule_of c.args.self.symbol)) c.args.number c.loop.counter c.args.symbol c.requires (omega (arith, c.loop-test.true)) in
    next_left c.args.self.symbol (lexemes [] c.args.self.tokens.now) c.args.self.nodes.now c.loop.left.now c.first_tree.result.1.now c.loop.counter p.0 p.1 c.args.self.spelled (c.args.self.fits []) c.loop.invariant
    c.first_tree.ensures.others

pub first_tree-requires-2-clause-some : goal.first_tree-requires-2-clause-some
first_tree-requires-2-clause-some c =
    let p = earlier (sequence (rule_of c.args.self.symbol)) c.args.number c.loop.counter c.args.symbol c.requires (omega (arith, c.loop.auto.counter-end)) in
    (part_left c.args.self.symbol (lexemes [] c.args.self.tokens.now) c.args.self.nodes.now c.loop.left.now c.loop.counter p.0 p.1 c.args.self.spelled (c.args.self.fits []) c.loop.invariant).some

pub first_tree-requires-2-clause-trees : goal.first_tree-requires-2-clause-trees
first_tree-requires-2-clause-trees c =
    let p = earlier (sequence (rule_of c.args.self.symbol)) c.args.number c.loop.counter c.args.symbol c.requires (omega (arith, c.loop.auto.counter-end)) in
    (part_left c.args.self.symbol (lexemes [] c.args.self.tokens.now) c.args.self.nodes.now c.loop.left.now c.loop.counter p.0 p.1 c.args.self.spelled (c.args.self.fits []) c.loop.invariant).spelled

pub invariant_of-result : goal.invariant_of-result
invariant_of-result c =
    let same : c.loop.counter ≡ c.args.number = omega (arith, c.loop.auto.counter-end, c.loop-test.false) in
    record {
      spelled = (part_found c.args.self.symbol (lexemes [] c.args.self.tokens.now) c.args.self.nodes.now c.loop.left.now c.first_tree-2.result.0.now c.args.number c.args.symbol c.requires c.args.self.spelled (c.args.self.fits [])
          (c.loop.invariant ∙ ap (λ k. spelled_all (after_trees k (parts_in (read c.args.self.nodes.now)))) same) c.first_tree-2.ensures.first).spelled;
      fits = λ names. (part_found c.args.self.symbol (lexemes names c.args.self.tokens.now) c.args.self.nodes.now c.loop.left.now c.first_tree-2.result.0.now c.args.number c.args.symbol c.requires c.args.self.spelled (c.args.self.fits names)
          (c.loop.invariant ∙ ap (λ k. spelled_all (after_trees k (parts_in (read c.args.self.nodes.now)))) same) c.first_tree-2.ensures.first).fit;
    }

pub returns-clause-tree : goal.returns-clause-tree
returns-clause-tree c = λ names.
    let same : c.loop.counter ≡ c.args.number = omega (arith, c.loop.auto.counter-end, c.loop-test.false) in
    (part_found c.args.self.symbol (lexemes names c.args.self.tokens.now) c.args.self.nodes.now c.loop.left.now c.first_tree-2.result.0.now c.args.number c.args.symbol c.requires c.args.self.spelled (c.args.self.fits names)
    (c.loop.invariant ∙ ap (λ k. spelled_all (after_trees k (parts_in (read c.args.self.nodes.now)))) same) c.first_tree-2.ensures.first).part

pub returns-clause-smaller : goal.returns-clause-smaller
returns-clause-smaller c =
    let same : c.loop.counter ≡ c.args.number = omega (arith, c.loop.auto.counter-end, c.loop-test.false) in
    (part_found c.args.self.symbol (lexemes [] c.args.self.tokens.now) c.args.self.nodes.now c.loop.left.now c.first_tree-2.result.0.now c.args.number c.args.symbol c.requires c.args.self.spelled (c.args.self.fits [])
    (c.loop.invariant ∙ ap (λ k. spelled_all (after_trees k (parts_in (read c.args.self.nodes.now)))) same) c.first_tree-2.ensures.first).smaller
