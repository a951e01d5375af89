use Rattle.std.proofs.Common.{◌∙◌, ◌∷◌, [], ap, sym}
use Rattle.std.proofs.lemmas.List.{map-append}
use Rattle.cu_kernel.specs.LocalTermsOf.{local_term_of}
use Rattle.cu_translation.specs.Blocks.{with_lets}
use Rattle.cu_forms.specs.Inside.Blocks.{bound_meaning, bounds_meaning}
use Rattle.cu_forms.proofs.BlockLemmas.{last_let}
use Rattle.cu_forms.proofs.blocks.with_lets.Goals as goal

pub loop-bound-preserved : goal.loop-bound-preserved
loop-bound-preserved g c w tells =
    let left = bounds_meaning c.pop.new.self.items in
    let b = bound_meaning c.in-Some.bound in
    let rest = local_term_of c.loop-bound.inner in
    ap (with_lets w.around left) (c.in_ok-inner.ensures w tells) ∙ sym (last_let w.around left b rest)
    ∙ ap (λ xs. with_lets w.around xs rest) (sym (ap bounds_meaning c.in-Some.ensures.items ∙ map-append bound_meaning c.pop.new.self.items (c.in-Some.bound ∷ [])))
    ∙ c.loop-bound.invariant w tells
