use Rattle.std.proofs.Common.{◌≡◌, ◌++◌, drop, map}
use Rattle.cu_kernel.specs.LocalKernelOf.{top_function_meaning}
use Rattle.cu_lift.specs.Lifting.{top_numbers}
use Rattle.cu_lift.proofs.placing.lifted_tops.Given as goal

-- the numbers so far and those of the functions that are left are all
abbrev pub invariant-loop-function : goal.invariant-loop-function
invariant-loop-function l =
    l.numbers.items ++ top_numbers l.next (map top_function_meaning (drop l.function-index l.functions))
    ≡ top_numbers 0 (map top_function_meaning l.functions)
