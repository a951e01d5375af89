use Rattle.std.proofs.Common.{◌≡◌, drop, map}
use Rattle.std.specs.List.{list_all}
use Rattle.cu_calculus.specs.Valid.{fits_function}
use Rattle.cu_kernel.proofs.valid.functions_fit.Given as goal
use Rattle.cu_kernel.specs.Heads.{heads_program}
use Rattle.cu_kernel.specs.Kernel.{plain_function}
use Rattle.cu_kernel.specs.KernelOf.{function_meaning}

-- the functions that are left fit where all do
abbrev pub invariant-loop-function : goal.invariant-loop-function
invariant-loop-function l =
    list_all (fits_function (heads_program l.heads)) (map plain_function (map function_meaning (drop l.function-index l.functions)))
    ≡ list_all (fits_function (heads_program l.heads)) (map plain_function (map function_meaning l.functions))
