use Rattle.std.proofs.Common.{◌≡◌, ◌<◌, ℕ}
use Rattle.std.specs.Prelude.{◌≢◌, Some, slice_get}
use Rattle.cu_calculus.specs.Program.{External}
use Rattle.cu_kernel.specs.KernelOf.{body_meaning}
use Rattle.cu_kernel.specs.declared.term.Function.{Function}
use Rattle.cu_deftree.proofs.functions.find_operation.Given as goal

-- none of the functions so far is the operation
abbrev pub invariant-loop-index : goal.invariant-loop-index
invariant-loop-index l =
    (k : ℕ) (other : Function) → k < l.index → slice_get l.functions k ≡ Some other → body_meaning other.body ≢ External l.operation
