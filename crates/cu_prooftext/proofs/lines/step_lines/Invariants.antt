use Rattle.std.proofs.Common.{◌≡◌, ◌≤◌, ◌-◌, map}
use Rattle.cu_crwl.specs.Meaning.{step_of}
use Rattle.cu_prooftext.specs.Inside.Lines.{steps_at}
use Rattle.cu_prooftext.specs.Inside.Loops.{with_front}
use Rattle.cu_prooftext.proofs.lines.step_lines.Given as goal

-- the steps so far and those that are left are all
abbrev pub invariant-loop-number : goal.invariant-loop-number
invariant-loop-number l =
    (with_front (map step_of l.steps.items) (steps_at l.number (l.count - l.number) l.rest) ≡ steps_at 0 l.count l.bytes)
    × (l.number ≤ l.count)

abbrev pub decreases-loop-number : goal.decreases-loop-number
decreases-loop-number l = l.count - l.number
