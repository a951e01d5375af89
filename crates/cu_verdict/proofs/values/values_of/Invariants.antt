use Rattle.std.proofs.Common.{◌≡◌, ◌≤◌}
use Rattle.cu_calculus.specs.Match.{bind_all, empty}
use Rattle.cu_verdict.specs.Proved.{values_from}
use Rattle.cu_verdict.proofs.values.values_of.Given as goal

-- the values of the variables so far
abbrev pub invariant-loop-variable : goal.invariant-loop-variable
invariant-loop-variable l =
    (l.values.items ≡ values_from (bind_all empty l.env) 0 l.variable) × (l.variable ≤ l.count)
