use Rattle.std.proofs.Common.{◌≡◌, map}
use Rattle.cu_kernel.specs.TypesOf.{type_of}
use Rattle.cu_translation.specs.ModuleTypes.{variables_from}
use Rattle.cu_toplevel.proofs.first_types.first_variables.Given as goal

abbrev pub invariant-variables : goal.invariant-variables
invariant-variables l = map type_of l.variables.items ≡ variables_from l.number 0
