use Rattle.std.proofs.Common.{◌≡◌, take}
use Rattle.cu_front.proofs.names_copy.copy_names.Given as goal

-- the texts so far
abbrev pub invariant-loop-number : goal.invariant-loop-number
invariant-loop-number l = l.copy ≡ take l.number l.names
