-- The test whether a proof's steps follow, from the first one on: each from the statements that it
-- cites, which stand before it.
use Rattle.std.specs.Prelude.{ℕ, Bool, true, false, ◌&&◌, List, [], ◌∷◌, ◌++◌, Option, None, Some, slice_get}
use Rattle.cu_calculus.specs.Gives.{Claim}
use Rattle.cu_calculus.specs.Program.{Program}
use Rattle.cu_calculus.specs.Proof.{Statement, Step, statements}
use Rattle.cu_crwl.specs.Table.{follows}

-- a cited statement before further ones, where all are there
abbrev pub with_cited : Option Statement → Option (List Statement) → Option (List Statement)
with_cited (Some s) (Some ss) = Some (s ∷ ss)
with_cited _ _ = None

-- the statements that numbers cite, where all are there
abbrev pub cited_by : List Statement → List ℕ → Option (List Statement)
cited_by before [] = Some []
cited_by before (k ∷ ks) = with_cited (slice_get before k) (cited_by before ks)

-- whether a statement follows from those that it cites, where these are there
abbrev pub statement_follows : Program → List Claim → Statement → Option (List Statement) → Bool
statement_follows program claims s None = false
statement_follows program claims s (Some cited) = follows program claims cited s.env s.term s.value

-- whether a step follows, where these steps stand before it
abbrev pub step_follows : Program → List Claim → List Step → Step → Bool
step_follows program claims before step =
    statement_follows program claims step.statement (cited_by (statements before) step.cites)

-- whether steps follow one after another, where the first ones stand before them
abbrev pub all_follow : Program → List Claim → List Step → List Step → Bool
all_follow program claims before [] = true
all_follow program claims before (step ∷ steps) =
    step_follows program claims before step && all_follow program claims (before ++ step ∷ []) steps
