use Rattle.std.proofs.Common.{get_or, refl}
use Rattle.cu_flat.proofs.Merging.{Merging-more}
use Rattle.cu_flat.proofs.scope.merged.Goals as goal

pub loop-x-preserved : goal.loop-x-preserved
loop-x-preserved c =
    let scope = c.args.scope.now in
    let i = c.loop-x.x-index in
    λ p q first second. Merging-more p q scope i (get_or scope i 0) 0 c.loop-x.left.now c.loop-x.right.now c.loop-x.found.items _ _ _ _ _
    c.loop-x-test.true refl (c.loop-x.invariant p q first second) c.after-left_after.ensures c.after-right_after.ensures
    c.are_fewer-in_left.ensures c.are_fewer-in_right.ensures c.in_ok-push_among.ensures
