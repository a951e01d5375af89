-- Each item is read before those after it.
use Rattle.std.proofs.Common.{rules, ◌≡◌, refl, ◌∙◌}
use Rattle.std.specs.Vec.Iter.{into_iter_items, into_iter_len}
use Rattle.cu_syntax.specs.declared.subtree.Subtree.{Subtree}
use Rattle.cu_syntax.specs.declared.symbol.Symbol.TheVariants as symbol
use Rattle.cu_syntax.specs.Expressions.{rest_of, with_item}
use Rattle.cu_syntax.specs.Reading.{operator_rest}
use Rattle.cu_syntax.specs.SubtreeMeaning.{tree_of}
use Rattle.cu_syntax.specs.Owners.{IsOf, OperatorItemIsOf}
use Rattle.cu_syntax.proofs.ExpressionForms.{rest_folded}
use Rattle.cu_syntax.proofs.ViewLemmas.{all_later, all_left, nothing_left, one_left, reads_all, reads_first, reads_one}
use Rattle.cu_syntax.proofs.OwnerLemmas.{none_yet, one_more, parts_here, parts_later}
use Rattle.cu_syntax.proofs.expression_forms.further.Goals as goal

pub loop-item-init : goal.loop-item-init
loop-item-init c = record {
  reads = λ names.
      reads_first (with_item names) operator_rest rest_of names (tree_of names c.args.tree) c.new-items.result.items (into_iter_items c.into_iter-item-iterator.result)
      c.in_ok-item-items.item-items.items (λ trees. refl) c.new-items.ensures.items c.into_iter-item-iterator.ensures.into_iter_gives.0 (c.in_ok-item-items.ensures.trees names);
  left = λ owner names whole.
      all_left (IsOf owner names) (into_iter_items c.into_iter-item-iterator.result) c.in_ok-item-items.item-items.items c.into_iter-item-iterator.ensures.into_iter_gives.0
      (c.in_ok-item-items.ensures.owned owner names whole);
  owned = λ owner names whole. none_yet (OperatorItemIsOf owner names) c.new-items.result.items c.new-items.ensures.items;
  symbols = search rules;
  counted = search rules;
}

pub loop-item-preserved : goal.loop-item-preserved
loop-item-preserved c =
    let at = c.loop-item in
    let left = into_iter_items at.item-iterator in
    let later = into_iter_items c.next.new.self in
    record {
      reads = λ names.
          reads_one (with_item names) operator_rest names (rest_of (tree_of names c.args.tree)) at.items.items c.push.new.self.items left later c.in-Some.item c.operator_item.result
          (at.invariant.reads names) c.in-Some.ensures.steps.0 (c.operator_item.ensures.meaning names) c.in_ok-push.ensures.items;
      left = λ owner names whole. parts_later owner names left later c.in-Some.item c.in-Some.ensures.steps.0 (at.invariant.left owner names whole);
      owned = λ owner names whole.
          one_more (OperatorItemIsOf owner names) at.items.items c.push.new.self.items c.operator_item.result c.in_ok-push.ensures.items (at.invariant.owned owner names whole)
          (c.operator_item.ensures.owned owner names (parts_here owner names left later c.in-Some.item c.in-Some.ensures.steps.0 (at.invariant.left owner names whole)));
      symbols = all_later (λ (part : Subtree). part.symbol ≡ symbol.FurtherOperand) left later c.in-Some.item c.in-Some.ensures.steps.0 at.invariant.symbols;
      counted = one_left left later c.in-Some.item (into_iter_len at.item-iterator) (into_iter_len c.next.new.self) c.in-Some.ensures.steps.0 c.in-Some.ensures.steps.1 at.invariant.counted;
    }

pub returns-clause-meaning : goal.returns-clause-meaning
returns-clause-meaning c = λ names.
    let at = c.loop-item in
    let left = into_iter_items at.item-iterator in
    let none = nothing_left left (into_iter_len at.item-iterator) c.in-None.ensures.steps.0 at.invariant.counted in
    reads_all (with_item names) operator_rest names (rest_of (tree_of names c.args.tree)) at.items.items left (at.invariant.reads names) none ∙ rest_folded names at.items.items

pub returns-clause-owned : goal.returns-clause-owned
returns-clause-owned c = λ owner names whole. c.loop-item.invariant.owned owner names whole
