-- Each qualifier is read before those after it.
use Rattle.std.proofs.Common.{rules, ◌≡◌, [], ap, refl, sym, ◌∙◌}
use Rattle.std.specs.Vec.Iter.{into_iter_items, into_iter_len}
use Rattle.cu_syntax.specs.declared.subtree.Subtree.{Subtree}
use Rattle.cu_syntax.specs.declared.symbol.Symbol.TheVariants as symbol
use Rattle.cu_syntax.specs.Expressions.{qualifiers_in}
use Rattle.cu_syntax.specs.Reading.{qualifiers_of}
use Rattle.cu_syntax.specs.SubtreeMeaning.{tree_of}
use Rattle.cu_syntax.specs.Subtrees.{is_choice}
use Rattle.cu_syntax.specs.Syntax.{MoreQualifiers}
use Rattle.cu_syntax.specs.Table.{rule_of}
use Rattle.cu_syntax.specs.Owners.{IsOf, QualifierIsOf}
use Rattle.cu_syntax.proofs.ExpressionParts.{qualifier_taken, qualifiers_folded, with_qualifier}
use Rattle.cu_syntax.proofs.ViewLemmas.{all_here, all_later, all_left, nothing_left, one_left, reads_all, reads_first, reads_one}
use Rattle.cu_syntax.proofs.OwnerLemmas.{none_yet, one_more, parts_here, parts_later}
use Rattle.cu_syntax.proofs.expression_forms.qualifiers.Goals as goal

pub loop-qualifier-init : goal.loop-qualifier-init
loop-qualifier-init c = record {
  reads = λ names.
      reads_first (with_qualifier names) qualifiers_of qualifiers_in names (tree_of names c.args.tree) c.new-qualifiers.result.items (into_iter_items c.into_iter-qualifier-iterator.result)
      c.in_ok-qualifier-items.qualifier-items.items (λ trees. refl) c.new-qualifiers.ensures.items c.into_iter-qualifier-iterator.ensures.into_iter_gives.0 (c.in_ok-qualifier-items.ensures.trees names);
  left = λ owner names whole.
      all_left (IsOf owner names) (into_iter_items c.into_iter-qualifier-iterator.result) c.in_ok-qualifier-items.qualifier-items.items c.into_iter-qualifier-iterator.ensures.into_iter_gives.0
      (c.in_ok-qualifier-items.ensures.owned owner names whole);
  owned = λ owner names whole. none_yet (QualifierIsOf owner names) c.new-qualifiers.result.items c.new-qualifiers.ensures.items;
  symbols = search rules;
  counted = search rules;
}

pub chosen-requires : goal.chosen-requires
chosen-requires c =
    let at = c.loop-qualifier in
    ap (λ a. is_choice (rule_of a))
    (all_here (λ (part : Subtree). part.symbol ≡ symbol.Qual) (into_iter_items at.qualifier-iterator) (into_iter_items c.next.new.self) c.in-Some.qualifier c.in-Some.ensures.steps.0 at.invariant.symbols)

pub qualifier_of-requires : goal.qualifier_of-requires
qualifier_of-requires c =
    let at = c.loop-qualifier in
    let symbol = all_here (λ (part : Subtree). part.symbol ≡ symbol.Qual) (into_iter_items at.qualifier-iterator) (into_iter_items c.next.new.self) c.in-Some.qualifier c.in-Some.ensures.steps.0
    at.invariant.symbols in
    (qualifier_taken c.in-Some.qualifier.symbol (tree_of [] c.in-Some.qualifier) c.chosen.result.symbol (tree_of [] c.chosen.result) symbol (c.in-Some.qualifier.fits [])
    (c.chosen.ensures.tree [])).is_qualifier

pub loop-qualifier-preserved : goal.loop-qualifier-preserved
loop-qualifier-preserved c =
    let at = c.loop-qualifier in
    let left = into_iter_items at.qualifier-iterator in
    let later = into_iter_items c.next.new.self in
    let part = c.in-Some.qualifier in
    let here = all_here (λ (part : Subtree). part.symbol ≡ symbol.Qual) left later part c.in-Some.ensures.steps.0 at.invariant.symbols in
    record {
      reads = λ names.
          reads_one (with_qualifier names) qualifiers_of names (qualifiers_in (tree_of names c.args.tree)) at.qualifiers.items c.push.new.self.items left later part c.in_ok-qualifier_of.field-0
          (at.invariant.reads names) c.in-Some.ensures.steps.0
          (λ rest.
          (qualifier_taken part.symbol (tree_of names part) c.chosen.result.symbol (tree_of names c.chosen.result) here (part.fits names) (c.chosen.ensures.tree names)).is rest
          ∙ ap (λ q. MoreQualifiers q (qualifiers_of rest)) (sym (c.in_ok-qualifier_of.ensures.meaning names)))
          c.in_ok-push.ensures.items;
      left = λ owner names whole. parts_later owner names left later c.in-Some.qualifier c.in-Some.ensures.steps.0 (at.invariant.left owner names whole);
      owned = λ owner names whole.
          one_more (QualifierIsOf owner names) at.qualifiers.items c.push.new.self.items c.in_ok-qualifier_of.field-0 c.in_ok-push.ensures.items (at.invariant.owned owner names whole)
          (c.in_ok-qualifier_of.ensures.owned owner names (c.chosen.ensures.owned owner names (parts_here owner names left later c.in-Some.qualifier c.in-Some.ensures.steps.0 (at.invariant.left owner names whole))));
      symbols = all_later (λ (part : Subtree). part.symbol ≡ symbol.Qual) left later part c.in-Some.ensures.steps.0 at.invariant.symbols;
      counted = one_left left later part (into_iter_len at.qualifier-iterator) (into_iter_len c.next.new.self) c.in-Some.ensures.steps.0 c.in-Some.ensures.steps.1 at.invariant.counted;
    }

pub returns-clause-meaning : goal.returns-clause-meaning
returns-clause-meaning c = λ names.
    let at = c.loop-qualifier in
    let left = into_iter_items at.qualifier-iterator in
    let none = nothing_left left (into_iter_len at.qualifier-iterator) c.in-None.ensures.steps.0 at.invariant.counted in
    reads_all (with_qualifier names) qualifiers_of names (qualifiers_in (tree_of names c.args.tree)) at.qualifiers.items left (at.invariant.reads names) none
    ∙ qualifiers_folded names at.qualifiers.items

pub returns-clause-owned : goal.returns-clause-owned
returns-clause-owned c = λ owner names whole. c.loop-qualifier.invariant.owned owner names whole
