use Rattle.std.proofs.Common.{◌≡◌, drop, map}
use Rattle.std.specs.List.{list_all}
use Rattle.cu_kernel.specs.LocalKernelOf.{top_function_meaning}
use Rattle.kernel_tests.specs.Inside.Naming.{has_name}
use Rattle.kernel_tests.proofs.checked_parts.have_names.Given as goal

-- the functions that are left have names where all do
abbrev pub invariant-loop-function : goal.invariant-loop-function
invariant-loop-function l =
    list_all (has_name l.count) (map top_function_meaning (drop l.function-index l.functions))
    ≡ list_all (has_name l.count) (map top_function_meaning l.functions)
