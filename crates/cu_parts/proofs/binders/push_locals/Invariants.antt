use Rattle.std.proofs.Common.{◌≡◌, ◌++◌, drop, flat_map, map}
use Rattle.cu_kernel.specs.LocalKernelOf.{local_function_meaning}
use Rattle.cu_kernel.specs.LocalValid.{local_binders}
use Rattle.cu_parts.proofs.binders.push_locals.Given as goal

-- what was found and what the functions that are left bind are all
abbrev pub invariant-loop-function : goal.invariant-loop-function
invariant-loop-function l =
    l.found.items ++ flat_map local_binders (map local_function_meaning (drop l.function-index l.locals)) ≡ l.fn.found.items ++ flat_map local_binders (map local_function_meaning l.locals)
