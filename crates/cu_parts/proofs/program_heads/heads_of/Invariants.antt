use Rattle.std.proofs.Common.{◌≡◌, ◌++◌, drop, map}
use Rattle.cu_kernel.specs.Kernel.{plain_function}
use Rattle.cu_kernel.specs.KernelOf.{function_meaning}
use Rattle.cu_kernel.specs.LocalKernelOf.{top_function_meaning}
use Rattle.cu_kernel.specs.LocalValid.{without_rules}
use Rattle.cu_parts.proofs.program_heads.heads_of.Given as goal

-- the functions so far, and those that are left, are all
abbrev pub invariant-loop-function : goal.invariant-loop-function
invariant-loop-function l =
    map plain_function (map function_meaning l.heads.items) ++ map without_rules (map top_function_meaning (drop l.function-index l.functions))
    ≡ map without_rules (map top_function_meaning l.functions)
