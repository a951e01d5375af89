use Rattle.std.proofs.Common.{◌≡◌, ◌∙◌, Bool, List, ap, length, map, subst, sym}
use Rattle.cu_kernel.specs.LocalKernelOf.{local_function_meaning}
use Rattle.cu_parts.proofs.CapturingSteps.{are_capturing, written}
use Rattle.cu_parts.specs.Inside.Capturing.{AreCapturing, AreSound}
use Rattle.cu_parts.proofs.capturing.capturing.Goals as goal

pub returns-clause-capturing : goal.returns-clause-capturing
returns-clause-capturing c =
    let locals = map local_function_meaning c.args.locals.now in
    let new = c.spread.new.met in
    let round = c.spread.ensures in
    let same = c.as_mut_slice.ensures.value in
    let ended = round.closed c.loop-test.false in
    let size : c.loop.met.len ≡ length new = c.loop.met.ok.0 ∙ sym (round.sized ∙ ap length same) in
    let sound = round.sound (subst (λ (ms : List Bool). AreSound locals c.args.x ms) (sym same) c.loop.invariant.sound) in
    subst (λ (ms : List Bool). AreCapturing locals c.args.x ms) (sym (written c.loop.met.len new c.loop.met.items size))
    (are_capturing locals c.args.x new sound ended.1)
