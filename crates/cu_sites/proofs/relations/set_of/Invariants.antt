use Rattle.std.proofs.Common.{◌≡◌, ℕ, ◌||◌, drop}
use Rattle.cu_sites.proofs.relations.set_of.Given as goal
use Rattle.cu_sites.specs.Depending.{is_in}

-- what was inserted, and what is left, is all
abbrev pub invariant-loop-number : goal.invariant-loop-number
invariant-loop-number l =
    (k : ℕ) → (is_in l.set.keys k || is_in (drop l.number-index l.numbers) k) ≡ is_in l.numbers k
