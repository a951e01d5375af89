-- Why the lifting of a program can't be run.
use Rattle.std.specs.Prelude.{ℕ, List}
use Rattle.cu_kernel.specs.Kernel.{Kernel}
use Rattle.cu_kernel.specs.LocalKernel.{LocalKernel}
use Rattle.cu_front.specs.Programs.{CannotRun, IsLifted}
use Rattle.cu_front.specs.Refusal.{Refusal}

-- The program to which another one is lifted can't be run, for this reason.
pub record IsNotRunnable (table : List (List ℕ)) (local : LocalKernel) (names : List (List ℕ))
    (refusal : Refusal) : Type 0 where
  pub program : Kernel
  pub lifted : IsLifted table local names program
  pub cannot_run : CannotRun names program refusal
