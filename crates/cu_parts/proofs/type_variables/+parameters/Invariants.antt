use Rattle.std.proofs.Common.{◌≡◌, drop}
use Rattle.cu_kernel.specs.LocalValid.{all_have_parameters}
use Rattle.cu_kernel.specs.TypesOf.{types_of}
use Rattle.cu_parts.proofs.type_variables.+parameters.Given as goal

-- the types that are left pass where all do
abbrev pub invariant-all_have_parameters-loop-t : goal.invariant-all_have_parameters-loop-t
invariant-all_have_parameters-loop-t l =
    all_have_parameters l.count (types_of (drop l.t-index l.types)) ≡ all_have_parameters l.count (types_of l.types)
