use Rattle.std.proofs.Common.{◌≡◌, ◌∙◌, ◌∷◌, [], ap, arith, length, map, reverse, sym}
use Rattle.std.proofs.lemmas.List.{map-append}
use Rattle.cu_forms.specs.Operands.{first_term, item_meaning, operand_meaning, operated_on}
use Rattle.cu_forms.proofs.CallLemmas.{if_ok}
use Rattle.cu_forms.proofs.OperatorLemmas.{operated_append}
use Rattle.cu_forms.proofs.PatternLemmas.{no_items}
use Rattle.cu_forms.proofs.operators.grouped.Goals as goal

pub loop-item-init : goal.loop-item-init
loop-item-init g c w tells =
    ap (λ xs. operated_on w.around.names (map item_meaning c.args.items.items) (map operand_meaning (reverse xs))) c.new-stack.ensures.items

pub loop-item-preserved : goal.loop-item-preserved
loop-item-preserved g c w tells =
    let names = w.around.names in
    let left = map item_meaning c.pop.new.self.items in
    let after = map operand_meaning (reverse c.loop-item.stack.items) in
    ap (operated_on names left) (c.in_ok-place.ensures w tells) ∙ sym (operated_append names left (item_meaning c.in-Some.item ∷ []) after)
    ∙ ap (λ xs. operated_on names xs after) (sym (ap (map item_meaning) c.in-Some.ensures.items ∙ map-append item_meaning c.pop.new.self.items (c.in-Some.item ∷ [])))
    ∙ c.loop-item.invariant w tells

pub returns : goal.returns
returns g c w tells =
    let names = w.around.names in
    let none : length c.loop-item.left.items ≡ 0 = omega (arith, c.in_default.ensures.cases.0) in
    if_ok c.top.result
    (λ t e. e ∙ ap first_term (ap (λ xs. operated_on names xs (map operand_meaning (reverse c.loop-item.stack.items))) (sym (no_items item_meaning c.loop-item.left.items none)) ∙ c.loop-item.invariant w tells))
    c.top.ensures
