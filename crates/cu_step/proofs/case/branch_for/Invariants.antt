-- The branch is the one among those that are left.
use Rattle.std.proofs.Common.{◌≡◌, drop, map}
use Rattle.cu_flat.specs.Meaning.{branch_meaning}
use Rattle.cu_machine.specs.Rewrite.{branch_for}
use Rattle.cu_step.specs.Inside.Matching.{takes_pattern}
use Rattle.cu_step.proofs.case.branch_for.Given as goal

abbrev pub invariant-loop-branch : goal.invariant-loop-branch
invariant-loop-branch l =
    branch_for (takes_pattern l.kind) (map branch_meaning (drop l.branch-index l.branches))
    ≡ branch_for (takes_pattern l.kind) (map branch_meaning l.branches)
