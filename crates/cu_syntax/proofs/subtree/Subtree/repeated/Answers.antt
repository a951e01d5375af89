-- Each tree that is left is found, one after another.
use Rattle.std.proofs.Common.{rules, ◌≡◌, List, [], ap, length, map, refl, subst, sym}
use Rattle.std.proofs.lemmas.List.{nil_from_length}
use Rattle.cu_peg.specs.Spelling.{read}
use Rattle.cu_syntax.specs.declared.subtree.Subtree.{Subtree}
use Rattle.cu_syntax.specs.Owners.{IsOf}
use Rattle.cu_syntax.specs.Reading.{Tree}
use Rattle.cu_syntax.specs.SubtreeMeaning.{tree_of}
use Rattle.cu_syntax.specs.Table.{rule_of}
use Rattle.cu_syntax.proofs.RepeatLemmas.{Collects, all_collected, all_pushed, collected, fewer_left, no_items, none_collected, others_spelled, part_repeated, parts_spelled, pushed, repeated_no_choice, repeated_no_leaf}
use Rattle.cu_syntax.proofs.SplitLemmas.{lexemes}
use Rattle.cu_syntax.proofs.subtree.Subtree.repeated.Goals as goal

pub parts-left-requires-clause-leaf : goal.parts-left-requires-clause-leaf
parts-left-requires-clause-leaf c = repeated_no_leaf (rule_of c.args.self.symbol) (part_repeated (rule_of c.args.self.symbol) c.args.symbol c.requires)

pub parts-left-requires-clause-choice : goal.parts-left-requires-clause-choice
parts-left-requires-clause-choice c = repeated_no_choice (rule_of c.args.self.symbol) (part_repeated (rule_of c.args.self.symbol) c.args.symbol c.requires)

pub loop-left-init : goal.loop-left-init
loop-left-init c = record {
  spelled = parts_spelled (read c.args.self.nodes.now) c.parts-left.result.now c.parts-left.ensures;
  owned = λ owner names whole. no_items (IsOf owner names) c.new-parts.result.items c.new-parts.ensures.items;
  symbol = no_items (λ (part : Subtree). part.symbol ≡ c.args.symbol) c.new-parts.result.items c.new-parts.ensures.items;
  parts = λ names.
      none_collected c.args.self.symbol c.args.symbol (lexemes names c.args.self.tokens.now) c.args.self.nodes.now c.parts-left.result.now _ c.requires c.args.self.spelled
      (c.args.self.fits names) c.parts-left.ensures (ap (map (tree_of names)) c.new-parts.ensures.items);
}

pub invariant_of-push : goal.invariant_of-push
invariant_of-push c =
    let h = c.is_empty.ensures in
    let k = c.loop-left-test.true in
    let some : ¬ (c.loop-left.left.now ≡ []) = search rules in
    record {
      spelled = (collected c.args.symbol (lexemes [] c.args.self.tokens.now) (tree_of [] c.args.self) (map (tree_of []) c.loop-left.parts.items) c.loop-left.left.now c.first_tree.result.0.now c.first_tree.result.1.now c.loop-left.invariant.spelled some c.first_tree.ensures.first c.first_tree.ensures.others (c.loop-left.invariant.parts [])).spelled;
      fits = λ names. (collected c.args.symbol (lexemes names c.args.self.tokens.now) (tree_of names c.args.self) (map (tree_of names) c.loop-left.parts.items) c.loop-left.left.now c.first_tree.result.0.now c.first_tree.result.1.now c.loop-left.invariant.spelled some c.first_tree.ensures.first c.first_tree.ensures.others (c.loop-left.invariant.parts names)).fit;
    }

pub loop-left-preserved : goal.loop-left-preserved
loop-left-preserved c =
    let h = c.is_empty.ensures in
    let k = c.loop-left-test.true in
    let some : ¬ (c.loop-left.left.now ≡ []) = search rules in
    record {
      spelled = others_spelled c.loop-left.left.now c.first_tree.result.1.now c.first_tree.ensures.others;
      owned = λ owner names whole.
          all_pushed (IsOf owner names) c.loop-left.parts.items c.push.new.self.items _ c.in_ok-push.ensures.items (c.loop-left.invariant.owned owner names whole) (record { tokens = whole.tokens });
      symbol = all_pushed (λ (part : Subtree). part.symbol ≡ c.args.symbol) c.loop-left.parts.items c.push.new.self.items _ c.in_ok-push.ensures.items c.loop-left.invariant.symbol refl;
      parts = λ names.
          subst (λ (found : List Tree). Collects c.args.symbol (lexemes names c.args.self.tokens.now) (tree_of names c.args.self) found c.first_tree.result.1.now)
          (sym (pushed (tree_of names) c.loop-left.parts.items c.push.new.self.items _ c.in_ok-push.ensures.items))
          (collected c.args.symbol (lexemes names c.args.self.tokens.now) (tree_of names c.args.self) (map (tree_of names) c.loop-left.parts.items) c.loop-left.left.now c.first_tree.result.0.now c.first_tree.result.1.now c.loop-left.invariant.spelled some c.first_tree.ensures.first c.first_tree.ensures.others (c.loop-left.invariant.parts names)).next;
    }

pub loop-left-smaller : goal.loop-left-smaller
loop-left-smaller c =
    let h = c.is_empty.ensures in
    let k = c.loop-left-test.true in
    let some : ¬ (c.loop-left.left.now ≡ []) = search rules in
    fewer_left c.loop-left.left.now c.first_tree.result.1.now some c.loop-left.invariant.spelled c.first_tree.ensures.others

pub returns-clause-trees : goal.returns-clause-trees
returns-clause-trees c = λ names.
    let h = c.is_empty.ensures in
    let k = c.loop-left-test.false in
    let zero : length c.loop-left.left.now ≡ 0 = search rules in
    let none : c.loop-left.left.now ≡ [] = nil_from_length c.loop-left.left.now zero in
    all_collected c.args.symbol (lexemes names c.args.self.tokens.now) (tree_of names c.args.self) (map (tree_of names) c.loop-left.parts.items) c.loop-left.left.now c.loop-left.invariant.spelled none (c.loop-left.invariant.parts names)
