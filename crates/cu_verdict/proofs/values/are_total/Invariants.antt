use Rattle.std.proofs.Common.{◌≡◌, drop}
use Rattle.std.specs.List.{list_all}
use Rattle.cu_calculus.specs.Shape.{is_total}
use Rattle.cu_verdict.proofs.values.are_total.Given as goal

-- the values that are left decide as all do
abbrev pub invariant-loop-value : goal.invariant-loop-value
invariant-loop-value l = list_all is_total (drop l.value-index l.values) ≡ list_all is_total l.values
