-- Two proofs joined to one: the second stands after the first, and its citations are moved by the
-- number of the first one's steps.
use Rattle.std.specs.Prelude.{ℕ, ◌+◌, List, ◌++◌, length, map}
use Rattle.cu_calculus.specs.Proof.{Step}

-- a step whose citations are moved n places on
abbrev pub moved : ℕ → Step → Step
moved n step = record { cites = map (λ k. n + k) step.cites; statement = step.statement }

-- the steps of one proof, and after them those of another, with moved citations
abbrev pub joined : List Step → List Step → List Step
joined first second = first ++ map (moved (length first)) second
