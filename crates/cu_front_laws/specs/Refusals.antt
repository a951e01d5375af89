-- What becomes of a program is one thing: it is refused with one refusal, or it can be run with one
-- interface and one flat program.
use Rattle.std.specs.Prelude.{◌≡◌, ℕ, List}
use Rattle.cu_calculus.specs.Program.{Program}
use Rattle.cu_front.specs.Programs.{CanRun, CannotRun}
use Rattle.cu_front.specs.Refusal.{Refusal}
use Rattle.cu_kernel.specs.Kernel.{Kernel}
use Rattle.cu_kernel.specs.TypeExpr.{TypeExpr}

-- A program that can't be run is refused for one reason only.
abbrev pub RefusalsAgree : Type 0
RefusalsAgree =
    (names : List (List ℕ)) (program : Kernel) (r s : Refusal) → CannotRun names program r
    → CannotRun names program s → r ≡ s

-- A program that can be run isn't refused.
abbrev pub RefusalsExclude : Type 0
RefusalsExclude =
    (names : List (List ℕ)) (program : Kernel) (interface : List TypeExpr) (flat : Program)
    (r : Refusal) → CanRun program interface flat → CannotRun names program r → ⊥

-- A program that can be run has one interface and one flat program only.
abbrev pub ProgramsAgree : Type 0
ProgramsAgree =
    (program : Kernel) (i j : List TypeExpr) (flat other : Program) → CanRun program i flat
    → CanRun program j other → (i ≡ j) × (flat ≡ other)
