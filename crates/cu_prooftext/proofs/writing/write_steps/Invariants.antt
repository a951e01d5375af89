use Rattle.std.proofs.Common.{◌≡◌, ◌++◌, drop, map}
use Rattle.std.specs.List.{flat_map}
use Rattle.cu_crwl.specs.Meaning.{step_of}
use Rattle.cu_prooftext.specs.Text.{step_text}
use Rattle.cu_prooftext.proofs.writing.write_steps.Given as goal

-- what is written and what is left are the whole
abbrev pub invariant-loop-step : goal.invariant-loop-step
invariant-loop-step l =
    l.out.items ++ flat_map step_text (map step_of (drop l.step-index l.steps)) ≡ l.fn.out.items ++ flat_map step_text (map step_of (l.steps))
