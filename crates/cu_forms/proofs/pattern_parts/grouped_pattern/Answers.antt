use Rattle.std.proofs.Common.{◌∙◌, ◌∷◌, [], ap, map, reverse, sym}
use Rattle.std.proofs.lemmas.List.{map-append}
use Rattle.cu_kernel.specs.TermsOf.{pattern_of}
use Rattle.cu_forms.specs.Inside.PatternParts.{item_meaning}
use Rattle.cu_forms.proofs.PatternLemmas.{all_placed_on, placed_last, placed_on}
use Rattle.cu_forms.proofs.pattern_parts.grouped_pattern.Goals as goal

pub loop-item-init : goal.loop-item-init
loop-item-init c =
    ap (λ xs. placed_on (map item_meaning c.args.items.items) (map pattern_of (reverse xs))) c.new-stack.ensures.items ∙ all_placed_on (map item_meaning c.args.items.items)

pub loop-item-preserved : goal.loop-item-preserved
loop-item-preserved c =
    let left = map item_meaning c.pop.new.self.items in
    let after = map pattern_of (reverse c.loop-item.stack.items) in
    ap (placed_on left) c.in_ok-place.ensures ∙ sym (placed_last left (item_meaning c.in-Some.item) after)
    ∙ ap (λ xs. placed_on xs after) (sym (ap (map item_meaning) c.in-Some.ensures.items ∙ map-append item_meaning c.pop.new.self.items (c.in-Some.item ∷ [])))
    ∙ c.loop-item.invariant
