use Rattle.std.proofs.Common.{◌≡◌, drop}
use Rattle.cu_types.proofs.keeping.join.Given as goal
use Rattle.cu_types.specs.Inside.Keeping.{joined}

abbrev pub invariant-loop-number : goal.invariant-loop-number
invariant-loop-number l = joined l.seen.keys (drop l.number-index l.numbers) ≡ joined l.initial.seen.keys l.numbers
