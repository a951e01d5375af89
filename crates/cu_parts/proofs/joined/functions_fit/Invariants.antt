use Rattle.std.proofs.Common.{◌≡◌, drop, map}
use Rattle.std.specs.List.{list_all}
use Rattle.cu_kernel.specs.LocalKernelOf.{local_kernel_of, top_function_meaning}
use Rattle.cu_kernel.specs.LocalValid.{function_fits}
use Rattle.cu_parts.proofs.joined.functions_fit.Given as goal

-- the functions that are left fit where all do
abbrev pub invariant-loop-function : goal.invariant-loop-function
invariant-loop-function l =
    list_all (function_fits (local_kernel_of l.parts)) (map top_function_meaning (drop l.function-index l.functions))
    ≡ list_all (function_fits (local_kernel_of l.parts)) (map top_function_meaning l.functions)
