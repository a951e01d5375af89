use Rattle.std.proofs.Common.{◌∙◌, ◌∷◌, [], ap, map, sym, codes}
use Rattle.std.proofs.lemmas.List.{map-append}
use Rattle.cu_kernel.specs.LocalTermsOf.{local_term_of}
use Rattle.cu_forms.specs.Inside.Blocks.{before_guards, guard_meaning}
use Rattle.cu_forms.specs.Inside.Calls.{built_in_term}
use Rattle.cu_forms.proofs.BlockLemmas.{last_guard}
use Rattle.cu_forms.proofs.lists.guarded.Goals as goal

pub loop-row-init : goal.loop-row-init
loop-row-init g c w tells =
    ap (before_guards w.around.names (map guard_meaning c.args.rows.items))
    (c.in_ok-other.ensures w tells ∙ ap (λ xs. built_in_term w.around.names (codes "failed") (map local_term_of xs)) c.new.ensures.items)

pub loop-row-preserved : goal.loop-row-preserved
loop-row-preserved g c w tells =
    let before = before_guards w.around.names in
    let left = map guard_meaning c.pop.new.self.items in
    let x = guard_meaning c.in-Some.row in
    let rest = local_term_of c.loop-row.other in
    ap (before left) (c.in_ok-other-2.ensures w tells) ∙ sym (last_guard w.around.names left x rest)
    ∙ ap (λ xs. before xs rest) (sym (ap (map guard_meaning) c.in-Some.ensures.items ∙ map-append guard_meaning c.pop.new.self.items (c.in-Some.row ∷ [])))
    ∙ c.loop-row.invariant w tells
