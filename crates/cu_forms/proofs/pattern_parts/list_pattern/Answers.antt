use Rattle.std.proofs.Common.{◌∙◌, ◌∷◌, [], ap, map, sym}
use Rattle.cu_kernel.specs.TermsOf.{pattern_of}
use Rattle.std.proofs.lemmas.List.{map-append}
use Rattle.cu_forms.specs.Inside.PatternParts.{before_form}
use Rattle.cu_forms.proofs.PatternLemmas.{all_before_form, last_before_form}
use Rattle.cu_forms.proofs.pattern_parts.list_pattern.Goals as goal

pub loop-element-init : goal.loop-element-init
loop-element-init g c w tells =
    let ps = map pattern_of c.args.patterns.items in
    ap (before_form w.around.names ps) (c.constant-list.ensures w tells) ∙ all_before_form w.around.names ps

pub loop-element-preserved : goal.loop-element-preserved
loop-element-preserved g c w tells =
    let before = before_form w.around.names in
    let left = map pattern_of c.pop.new.self.items in
    let x = pattern_of c.in-Some.element in
    let rest = pattern_of c.loop-element.list in
    ap (before left) (c.in_ok-list.ensures w tells) ∙ sym (last_before_form w.around.names left x rest)
    ∙ ap (λ xs. before xs rest) (sym (ap (map pattern_of) c.in-Some.ensures.items ∙ map-append pattern_of c.pop.new.self.items (c.in-Some.element ∷ [])))
    ∙ c.loop-element.invariant w tells
