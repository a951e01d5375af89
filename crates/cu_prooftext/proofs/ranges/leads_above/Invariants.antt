use Rattle.std.proofs.Common.{◌≡◌, ℕ, suc, ◌+◌, ◌-◌, ◌<◌, ◌≤◌}
use Rattle.cu_prooftext.specs.Inside.Ranges.{leads_up}
use Rattle.cu_prooftext.proofs.ranges.leads_above.Given as goal

-- fuel is left, with which the same is found from here
abbrev pub invariant-loop-high : goal.invariant-loop-high
invariant-loop-high l =
    (fuel : ℕ) × (0 < fuel) × (l.last + 1 < fuel + l.high) × (l.low ≤ l.high) × (0 < l.high)
    × (leads_up fuel l.last l.low l.high ≡ leads_up (suc (suc l.last)) l.last l.number l.number)

abbrev pub decreases-loop-high : goal.decreases-loop-high
decreases-loop-high l = (l.last + 1) - l.high
