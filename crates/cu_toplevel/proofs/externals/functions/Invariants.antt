use Rattle.std.proofs.Common.{◌≡◌, map, take}
use Rattle.cu_kernel.specs.LocalKernelOf.{top_function_meaning}
use Rattle.cu_toplevel.specs.Inside.Given.{external_meaning}
use Rattle.cu_translation.specs.Functions.{external_function}
use Rattle.cu_toplevel.proofs.externals.functions.Given as goal

abbrev pub invariant-externals : goal.invariant-externals
invariant-externals l = map top_function_meaning l.functions.items ≡ map (λ g. external_function l.names (external_meaning g)) (take l.text-index l.externals)
