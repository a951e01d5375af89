use Rattle.std.proofs.Common.{◌∙◌, Option, ap, ap₂, codes, map, sym}
use Rattle.std.specs.Option.{option_map}
use Rattle.cu_kernel.specs.LocalTermsOf.{local_term_of}
use Rattle.cu_kernel.specs.declared.local.LocalTerm.{LocalTerm}
use Rattle.cu_translation.specs.Table.{enumeration}
use Rattle.cu_forms.specs.Inside.Calls.{built_in_term}
use Rattle.cu_forms.proofs.CallLemmas.{if_ok}
use Rattle.cu_forms.proofs.ExpressionLemmas.{by_second, by_second_to_last, from_first, up_to_last}
use Rattle.cu_forms.proofs.term_parts.numbered.Goals as goal

pub returns-in_ok-vec-in-None-last : goal.returns-in_ok-vec-in-None-last
returns-in_ok-vec-in-None-last g c w tells =
    if_ok c.built_in.result
    (λ t e. e ∙ ap (λ xs. built_in_term w.around.names (codes "enumFrom") (map local_term_of xs)) c.in_ok-vec-in-None-last.ensures.items ∙ from_first w.around.names (local_term_of c.args.first)
    ∙ ap₂ (λ (a b : Option LocalTerm). enumeration w.around.names (local_term_of c.args.first) (option_map local_term_of a) (option_map local_term_of b)) (sym c.in-None.is) (sym c.in-None-last.is))
    (c.built_in.ensures w tells)

pub returns-in_ok-vec-in-Some-last : goal.returns-in_ok-vec-in-Some-last
returns-in_ok-vec-in-Some-last g c w tells =
    if_ok c.built_in-in-Some-last.result
    (λ t e. e ∙ ap (λ xs. built_in_term w.around.names (codes "enumFromTo") (map local_term_of xs)) c.in_ok-vec-in-Some-last.ensures.items ∙ up_to_last w.around.names (local_term_of c.args.first) (local_term_of c.in-Some-last.last)
    ∙ ap₂ (λ (a b : Option LocalTerm). enumeration w.around.names (local_term_of c.args.first) (option_map local_term_of a) (option_map local_term_of b)) (sym c.in-None.is) (sym c.in-Some-last.is))
    (c.built_in-in-Some-last.ensures w tells)

pub returns-in_ok-vec-in-None-last-2 : goal.returns-in_ok-vec-in-None-last-2
returns-in_ok-vec-in-None-last-2 g c w tells =
    if_ok c.built_in-in-None-last-2.result
    (λ t e. e ∙ ap (λ xs. built_in_term w.around.names (codes "enumFromThen") (map local_term_of xs)) c.in_ok-vec-in-None-last-2.ensures.items ∙ by_second w.around.names (local_term_of c.args.first) (local_term_of c.in-Some.second)
    ∙ ap₂ (λ (a b : Option LocalTerm). enumeration w.around.names (local_term_of c.args.first) (option_map local_term_of a) (option_map local_term_of b)) (sym c.in-Some.is) (sym c.in-None-last-2.is))
    (c.built_in-in-None-last-2.ensures w tells)

pub returns-in_ok-numbers-in-Some-last-2 : goal.returns-in_ok-numbers-in-Some-last-2
returns-in_ok-numbers-in-Some-last-2 g c w tells =
    if_ok c.built_in-in-Some-last-2.result
    (λ t e. e ∙ ap (λ xs. built_in_term w.around.names (codes "enumFromThenTo") (map local_term_of xs)) c.in_ok-numbers-in-Some-last-2.ensures.items ∙ by_second_to_last w.around.names (local_term_of c.args.first) (local_term_of c.in-Some.second) (local_term_of c.in-Some-last-2.last)
    ∙ ap₂ (λ (a b : Option LocalTerm). enumeration w.around.names (local_term_of c.args.first) (option_map local_term_of a) (option_map local_term_of b)) (sym c.in-Some.is) (sym c.in-Some-last-2.is))
    (c.built_in-in-Some-last-2.ensures w tells)
