use Rattle.std.proofs.Common.{◌≡◌, drop, false, slice_index_or}
use Rattle.std.specs.List.{list_any}
use Rattle.cu_types.proofs.functional.some_hold.Given as goal

-- what is left tells what all tell
abbrev pub invariant-loop-argument : goal.invariant-loop-argument
invariant-loop-argument l =
    list_any (λ a. slice_index_or l.holds a false) (drop l.argument-index l.arguments)
    ≡ list_any (λ a. slice_index_or l.holds a false) l.arguments
