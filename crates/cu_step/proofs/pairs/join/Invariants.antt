-- What was pushed joins the nodes from the leftmost one that was taken to the last.
use Rattle.std.proofs.Common.{◌≡◌, ◌≤◌, ◌-◌, ◌++◌, length}
use Rattle.cu_machine.specs.Build.{place_of, pushed}
use Rattle.cu_machine.specs.Rewrite.{joined_from_right}
use Rattle.cu_step.proofs.pairs.join.Given as goal

abbrev pub invariant-loop-left : goal.invariant-loop-left
invariant-loop-left g l =
    let graph = g.S.Store.content l.fn.store in
    let built = joined_from_right l.joint (length graph) l.left (l.last - l.left) in
    (l.first ≤ l.left) × (l.left ≤ l.last) × (g.S.Store.content l.store ≡ graph ++ pushed built) × (l.place ≡ place_of (length graph) built)

abbrev pub decreases-loop-left : goal.decreases-loop-left
decreases-loop-left g l = l.left
