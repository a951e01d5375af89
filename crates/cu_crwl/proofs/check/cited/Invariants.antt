use Rattle.std.proofs.Common.{◌≡◌, ◌++◌, drop, map, option_map}
use Rattle.cu_calculus.specs.Proof.{statements}
use Rattle.cu_crwl.specs.Meaning.{statements_at, step_of}
use Rattle.cu_crwl.specs.Steps.{cited_by}
use Rattle.cu_crwl.proofs.check.cited.Given as goal

abbrev pub invariant-loop-place : goal.invariant-loop-place
invariant-loop-place l =
    option_map (λ rest. statements_at l.found.items ++ rest) (cited_by (statements (map step_of l.before)) (drop l.place-index l.cites))
    ≡ cited_by (statements (map step_of l.before)) l.cites
