-- The last frame is left, or not.
use Rattle.std.proofs.Common.{◌≡◌, ◌-◌, ◌∙◌, true, ap, sym, take}
use Rattle.cu_step.specs.Inside.Kept.{ends_with}
use Rattle.cu_step.proofs.FrameEnds.{own_kept, own_left}
use Rattle.cu_step.proofs.need.leave_own.Goals as goal

pub returns-then-ends_with : goal.returns-then-ends_with
returns-then-ends_with c =
    let frames = c.args.frames.now in
    let ends : ends_with c.args.id frames.items ≡ true = sym (ap (ends_with c.args.id) c.as_slice.ensures.value) ∙ sym c.ends_with.ensures ∙ c.if-ends_with.true in
    c.pop.ensures.rest ∙ ap (λ n. take (n - 1) frames.items) frames.ok.0 ∙ own_left c.args.id frames.items ends

pub returns-else-ends_with : goal.returns-else-ends_with
returns-else-ends_with c =
    own_kept c.args.id c.args.frames.now.items (sym (ap (ends_with c.args.id) c.as_slice.ensures.value) ∙ sym c.ends_with.ensures ∙ c.if-ends_with.false)
