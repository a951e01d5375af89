use Rattle.std.proofs.Common.{◌∙◌, ◌∷◌, [], ap, map, sym, codes}
use Rattle.cu_kernel.specs.LocalTermsOf.{local_term_of}
use Rattle.std.proofs.lemmas.List.{map-append}
use Rattle.cu_forms.specs.Inside.Calls.{built_in_term}
use Rattle.cu_forms.specs.Inside.Lists.{before_list}
use Rattle.cu_forms.proofs.ListLemmas.{all_before, last_before}
use Rattle.cu_forms.proofs.lists.list.Goals as goal

pub loop-element-init : goal.loop-element-init
loop-element-init g c w tells =
    let ts = map local_term_of c.args.terms.items in
    ap (before_list w.around.names ts)
    (c.in_ok-list.ensures w tells ∙ ap (λ xs. built_in_term w.around.names (codes "[]") (map local_term_of xs)) c.new.ensures.items)
    ∙ all_before w.around.names ts

pub loop-element-preserved : goal.loop-element-preserved
loop-element-preserved g c w tells =
    let before = before_list w.around.names in
    let left = map local_term_of c.pop.new.self.items in
    let x = local_term_of c.in-Some.element in
    let rest = local_term_of c.loop-element.list in
    ap (before left) (c.in_ok-list-2.ensures w tells) ∙ sym (last_before w.around.names left x rest)
    ∙ ap (λ xs. before xs rest) (sym (ap (map local_term_of) c.in-Some.ensures.items ∙ map-append local_term_of c.pop.new.self.items (c.in-Some.element ∷ [])))
    ∙ c.loop-element.invariant w tells
