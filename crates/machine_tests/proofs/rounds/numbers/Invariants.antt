use Rattle.std.proofs.Common.{◌≡◌, ◌<◌, All, length}
use Rattle.machine_tests.proofs.rounds.numbers.Given as goal

abbrev pub invariant-loop-number : goal.invariant-loop-number
invariant-loop-number l = (length l.all.items ≡ l.number) × All (λ n. n < 1000) l.all.items
