-- What the two forms of the calculus say of a statement: the relation gives it, or a proof
-- concludes it.
use Rattle.std.specs.Prelude.{◌≡◌, List, Some}
use Rattle.cu_calculus.specs.Gives.{Claim, Gives}
use Rattle.cu_calculus.specs.Program.{Program}
use Rattle.cu_calculus.specs.Proof.{Checks, Statement, Step, conclusion, env_of}

-- A statement's term has its value where its variables stand for what its bindings say.
abbrev pub IsGiven : Program → List Claim → Statement → Type 0
IsGiven program claims statement =
    Gives program claims (env_of statement) statement.term statement.value

-- Some proof that checks concludes the statement.
abbrev pub IsProved : Program → List Claim → Statement → Type 0
IsProved program claims statement = (proof : List Step) × Checks program claims proof
    × (conclusion proof ≡ Some statement)
