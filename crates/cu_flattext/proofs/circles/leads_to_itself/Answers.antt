use Rattle.std.proofs.Common.{Bool, List, ap, sym, ◌∙◌, arith, map}
use Rattle.cu_kernel.specs.KernelOf.{synonym_meaning}
use Rattle.cu_flattext.specs.Inside.Circles.{is_known, leads_on}
use Rattle.cu_flattext.specs.TypeTexts.{is_or_passes}
use Rattle.cu_flattext.proofs.CircleLemmas.{at_first, at_last, mapped_length, one_step_further, settled}
use Rattle.cu_flattext.proofs.ListLemmas.{same_bits}
use Rattle.cu_flattext.proofs.circles.leads_to_itself.Goals as goal

pub loop-steps-init : goal.loop-steps-init
loop-steps-init c = λ r. at_first (map synonym_meaning c.args.synonyms.now) c.args.s r c.new-known.result.items c.new-known.ensures.items

pub returns-then-eq : goal.returns-then-eq
returns-then-eq c =
    let ys = map synonym_meaning c.args.synonyms.now in
    let count = mapped_length synonym_meaning c.args.synonyms.now in
    let more = c.in_ok-more.ensures
    ∙ ap (λ (bs : List Bool). map (leads_on (is_or_passes c.args.s (is_known bs))) ys) c.as_slice.ensures.value in
    c.is_known.ensures ∙ ap (λ (bs : List Bool). is_known bs c.args.s) c.as_slice-then-eq.ensures.value
    ∙ settled ys c.args.s c.loop-steps.steps c.loop-steps.known.items c.in_ok-more.more.items (omega (arith, count, c.loop-steps-test.true))
    c.loop-steps.invariant more
    (same_bits c.in_ok-more.more.items c.loop-steps.known.items (sym c.if-eq.ensures))

pub loop-steps-preserved : goal.loop-steps-preserved
loop-steps-preserved c =
    let ys = map synonym_meaning c.args.synonyms.now in
    one_step_further ys c.args.s c.loop-steps.steps c.loop-steps.known.items c.in_ok-more.more.items c.loop-steps.invariant
    (c.in_ok-more.ensures ∙ ap (λ (bs : List Bool). map (leads_on (is_or_passes c.args.s (is_known bs))) ys) c.as_slice.ensures.value)

pub returns : goal.returns
returns c =
    let ys = map synonym_meaning c.args.synonyms.now in
    let count = mapped_length synonym_meaning c.args.synonyms.now in
    c.is_known-2.ensures ∙ ap (λ (bs : List Bool). is_known bs c.args.s) c.as_slice-2.ensures.value
    ∙ at_last ys c.args.s c.loop-steps.steps c.loop-steps.known.items
    (omega (arith, count, c.loop-steps-test.false, c.loop-steps.auto.steps-end)) c.loop-steps.invariant
