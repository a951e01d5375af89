use Rattle.std.proofs.Common.{◌≡◌, ◌++◌, ℕ, Some, drop, length, slice_get}
use Rattle.std.specs.declared.alloc.Global.{Global}
use Rattle.std.specs.declared.vec.Vec.{Vec}
use Rattle.cu_calculus.specs.declared.FunId.{FunId}
use Rattle.cu_lift.specs.Inside.Levelling.{of_rank}
use Rattle.cu_lift.proofs.components.members.Given as goal

-- each row has the functions of its rank so far
abbrev pub invariant-loop-function : goal.invariant-loop-function
invariant-loop-function l =
    (length l.members.items ≡ l.found.count)
    × ((r : ℕ) (row : Vec FunId Global) → slice_get l.members.items r ≡ Some row
    → row.items ++ of_rank r l.function (drop l.function l.found.ranks.items) ≡ of_rank r 0 l.found.ranks.items)
