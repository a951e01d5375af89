use Rattle.std.proofs.Common.{◌≡◌, drop, map}
use Rattle.std.specs.List.{list_all}
use Rattle.cu_kernel.specs.LocalKernelOf.{local_function_meaning, local_kernel_of}
use Rattle.cu_kernel.specs.LocalValid.{local_signature_fits}
use Rattle.cu_parts.proofs.type_names.local_signatures_fit.Given as goal

-- the functions that are left pass where all do
abbrev pub invariant-loop-function : goal.invariant-loop-function
invariant-loop-function l = list_all (local_signature_fits (local_kernel_of l.parts)) (map local_function_meaning (drop l.function-index l.locals)) ≡ list_all (local_signature_fits (local_kernel_of l.parts)) (map local_function_meaning l.locals)
