use Rattle.std.proofs.Common.{◌≡◌, ◌++◌, drop, map}
use Rattle.cu_crwl.specs.Meaning.{statements_at}
use Rattle.cu_crwl.proofs.apply.given_values.Given as goal

abbrev pub invariant-loop-statement : goal.invariant-loop-statement
invariant-loop-statement l =
    l.values.items ++ map (λ s. s.value) (statements_at (drop l.statement-index l.statements)) ≡ map (λ s. s.value) (statements_at l.statements)
