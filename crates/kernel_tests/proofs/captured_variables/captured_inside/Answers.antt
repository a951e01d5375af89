use Rattle.cu_kernel.specs.LocalKernelOf.{top_function_meaning}
use Rattle.kernel_tests.proofs.CapturingScope.{scoped_as}
use Rattle.kernel_tests.proofs.captured_variables.captured_inside.Goals as goal

pub captured-requires : goal.captured-requires
captured-requires c = scoped_as (top_function_meaning c.in_ok-function.function) c.in_ok-function.ensures
