use Rattle.std.proofs.Common.{◌≡◌, drop, map}
use Rattle.std.specs.List.{list_all}
use Rattle.cu_calculus.specs.Valid.{is_arity}
use Rattle.cu_kernel.specs.KernelOf.{function_meaning}
use Rattle.cu_lift.proofs.lifting.have_arities.Given as goal

-- those that are left pass where all do
abbrev pub invariant-loop-function : goal.invariant-loop-function
invariant-loop-function l =
    list_all (λ f. is_arity f.arity) (map function_meaning (drop l.function-index l.functions))
    ≡ list_all (λ f. is_arity f.arity) (map function_meaning l.functions)
