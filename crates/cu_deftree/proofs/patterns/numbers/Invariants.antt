use Rattle.std.proofs.Common.{◌≡◌, ◌-◌, ◌++◌}
use Rattle.cu_deftree.specs.Rows.{numbers}
use Rattle.cu_deftree.proofs.patterns.numbers.Given as goal

abbrev pub invariant-loop-x : goal.invariant-loop-x
invariant-loop-x l = l.all.items ++ numbers l.x (l.x-end - l.x) ≡ numbers l.from l.count
