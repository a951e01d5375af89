use Rattle.std.proofs.Common.{◌<◌, ◌^◌, ◌∙◌, ap, sym, ℕ, List, arith}
use Rattle.cu_prooftext.specs.Inside.Lines.{further_cites}
use Rattle.cu_prooftext.specs.Inside.Loops.{with_front}
use Rattle.cu_prooftext.specs.Inside.Reading.{up_to}
use Rattle.cu_prooftext.proofs.GivesLaws.{fails_on, gives_err}
use Rattle.cu_prooftext.proofs.ListSteps.{cite_ends, cite_fails, cite_goes, cite_shorter}
use Rattle.cu_prooftext.proofs.lists.further_cites.Goals as goal

pub returns-in_err-cited : goal.returns-in_err-cited
returns-in_err-cited c =
    let k = c.loop-after in
    let small : c.args.last < 2 ^ 64 = omega arith in
    gives_err _ c.from_residual.result c.in_err-cited.field-0.0 (with_front c.args.front.items (further_cites c.args.last c.args.bytes.now)) c.from_residual.ensures.1
    (fails_on c.in_err-cited.field-0.0 (up_to c.args.last c.in-Some.after.now) (with_front c.args.front.items (further_cites c.args.last c.args.bytes.now))
    (λ n e. sym k.invariant ∙ cite_fails c.args.last small k.cites.items k.rest.now c.in-Some.after.now n c.in-Some.ensures.some e) c.in_err-cited.ensures)

pub loop-after-smaller : goal.loop-after-smaller
loop-after-smaller c =
    let small : c.args.last < 2 ^ 64 = omega arith in
    cite_shorter c.args.last small c.loop-after.rest.now c.in-Some.after.now c.in_ok-cited.more.now c.in_ok-cited.cited c.in-Some.ensures.some c.in_ok-cited.ensures

pub loop-after-preserved : goal.loop-after-preserved
loop-after-preserved c =
    let k = c.loop-after in
    let small : c.args.last < 2 ^ 64 = omega arith in
    ap (λ (z : List ℕ). with_front z (further_cites c.args.last c.in_ok-cited.more.now)) c.in_ok-push.ensures.items
    ∙ cite_goes c.args.last small k.cites.items k.rest.now c.in-Some.after.now c.in_ok-cited.more.now c.in_ok-cited.cited c.in-Some.ensures.some c.in_ok-cited.ensures
    ∙ k.invariant

pub returns : goal.returns
returns c = sym c.loop-after.invariant ∙ cite_ends c.args.last c.loop-after.cites.items c.loop-after.rest.now c.in_default.ensures.none
