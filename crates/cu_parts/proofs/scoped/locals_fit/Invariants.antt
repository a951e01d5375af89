use Rattle.std.proofs.Common.{◌≡◌, drop, map}
use Rattle.std.specs.List.{list_all}
use Rattle.cu_kernel.specs.LocalKernelOf.{local_function_meaning}
use Rattle.cu_kernel.specs.LocalValid.{fits_local}
use Rattle.cu_parts.proofs.scoped.locals_fit.Given as goal

-- the functions that are left pass where all do
abbrev pub invariant-loop-function : goal.invariant-loop-function
invariant-loop-function l = list_all fits_local (map local_function_meaning (drop l.function-index l.locals)) ≡ list_all fits_local (map local_function_meaning l.locals)
