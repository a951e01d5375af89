-- Each alternative is read before those after it, and nothing where none is.
use Rattle.std.proofs.Common.{rules, ◌≡◌, ap, refl, ◌∙◌}
use Rattle.std.specs.Vec.Iter.{into_iter_items, into_iter_len}
use Rattle.cu_peg.specs.Parse.{MoreTrees}
use Rattle.cu_syntax.specs.declared.subtree.Subtree.{Subtree}
use Rattle.cu_syntax.specs.declared.symbol.Symbol.TheVariants as symbol
use Rattle.cu_syntax.specs.Expressions.{alternatives_in, with_alternative}
use Rattle.cu_syntax.specs.Reading.{alternatives_of}
use Rattle.cu_syntax.specs.SubtreeMeaning.{tree_of}
use Rattle.cu_syntax.specs.Owners.{AlternativeIsOf, IsOf}
use Rattle.cu_syntax.proofs.ExpressionParts.{alternatives_folded}
use Rattle.cu_syntax.proofs.ViewLemmas.{all_later, all_left, nothing_left, one_left, reads_all, reads_first, reads_none, reads_one}
use Rattle.cu_syntax.proofs.OwnerLemmas.{none_yet, one_more, parts_here, parts_later}
use Rattle.cu_syntax.proofs.expression_forms.alternatives.Goals as goal

pub loop-place-init : goal.loop-place-init
loop-place-init c = record {
  reads = λ names.
      reads_first (with_alternative names) alternatives_of alternatives_in names (tree_of names c.args.tree) c.new-alternatives.result.items (into_iter_items c.into_iter-place-iterator.result)
      c.in_ok-place-items.place-items.items (λ trees. refl) c.new-alternatives.ensures.items c.into_iter-place-iterator.ensures.into_iter_gives.0 (c.in_ok-place-items.ensures.trees names);
  left = λ owner names whole.
      all_left (IsOf owner names) (into_iter_items c.into_iter-place-iterator.result) c.in_ok-place-items.place-items.items c.into_iter-place-iterator.ensures.into_iter_gives.0
      (c.in_ok-place-items.ensures.owned owner names whole);
  owned = λ owner names whole. none_yet (AlternativeIsOf owner names) c.new-alternatives.result.items c.new-alternatives.ensures.items;
  symbols = search rules;
  counted = search rules;
}

pub loop-place-preserved : goal.loop-place-preserved
loop-place-preserved c =
    let at = c.loop-place in
    let left = into_iter_items at.place-iterator in
    let later = into_iter_items c.next.new.self in
    let part = c.in-Some.place in
    record {
      reads = λ names.
          reads_one (with_alternative names) alternatives_of names (alternatives_in (tree_of names c.args.tree)) at.alternatives.items c.push.new.self.items left later part
          c.alternative_of.result (at.invariant.reads names) c.in-Some.ensures.steps.0
          (λ rest. ap (λ t. alternatives_of (MoreTrees t rest)) (c.in-Some-optional.ensures.tree names) ∙ c.alternative_of.ensures.meaning names rest) c.in_ok-push.ensures.items;
      left = λ owner names whole. parts_later owner names left later c.in-Some.place c.in-Some.ensures.steps.0 (at.invariant.left owner names whole);
      owned = λ owner names whole.
          one_more (AlternativeIsOf owner names) at.alternatives.items c.push.new.self.items c.alternative_of.result c.in_ok-push.ensures.items (at.invariant.owned owner names whole)
          (c.alternative_of.ensures.owned owner names (c.in-Some-optional.ensures.owned owner names (parts_here owner names left later c.in-Some.place c.in-Some.ensures.steps.0 (at.invariant.left owner names whole))));
      symbols = all_later (λ (part : Subtree). part.symbol ≡ symbol.OptionalAlt) left later part c.in-Some.ensures.steps.0 at.invariant.symbols;
      counted = one_left left later part (into_iter_len at.place-iterator) (into_iter_len c.next.new.self) c.in-Some.ensures.steps.0 c.in-Some.ensures.steps.1 at.invariant.counted;
    }

pub loop-place-preserved-in_default : goal.loop-place-preserved-in_default
loop-place-preserved-in_default c =
    let at = c.loop-place in
    let left = into_iter_items at.place-iterator in
    let later = into_iter_items c.next.new.self in
    let part = c.in-Some.place in
    record {
      reads = λ names.
          reads_none (with_alternative names) alternatives_of names (alternatives_in (tree_of names c.args.tree)) at.alternatives.items left later part (at.invariant.reads names)
          c.in-Some.ensures.steps.0 (λ rest. ap (λ t. alternatives_of (MoreTrees t rest)) (c.in_default.ensures.none names));
      left = λ owner names whole. parts_later owner names left later c.in-Some.place c.in-Some.ensures.steps.0 (at.invariant.left owner names whole);
      owned = at.invariant.owned;
      symbols = all_later (λ (part : Subtree). part.symbol ≡ symbol.OptionalAlt) left later part c.in-Some.ensures.steps.0 at.invariant.symbols;
      counted = one_left left later part (into_iter_len at.place-iterator) (into_iter_len c.next.new.self) c.in-Some.ensures.steps.0 c.in-Some.ensures.steps.1 at.invariant.counted;
    }

pub returns-clause-meaning : goal.returns-clause-meaning
returns-clause-meaning c = λ names.
    let at = c.loop-place in
    let left = into_iter_items at.place-iterator in
    let none = nothing_left left (into_iter_len at.place-iterator) c.in-None.ensures.steps.0 at.invariant.counted in
    reads_all (with_alternative names) alternatives_of names (alternatives_in (tree_of names c.args.tree)) at.alternatives.items left (at.invariant.reads names) none
    ∙ alternatives_folded names at.alternatives.items

pub returns-clause-owned : goal.returns-clause-owned
returns-clause-owned c = λ owner names whole. c.loop-place.invariant.owned owner names whole
