use Rattle.std.proofs.Common.{◌≡◌, ◌++◌, drop}
use Rattle.cu_types.proofs.closing.push_arguments.Given as goal
use Rattle.cu_types.specs.Inside.Closing.{paired}

-- the pairs so far and those that are left are all
abbrev pub invariant-loop-place : goal.invariant-loop-place
invariant-loop-place l =
    l.pending.items ++ paired (drop l.place l.left) (drop l.place l.right) ≡ l.initial.pending.items ++ paired l.left l.right
