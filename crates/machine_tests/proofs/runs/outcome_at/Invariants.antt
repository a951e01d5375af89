-- The branch is valid.
use Rattle.cu_machine.specs.Validity.{IsValid}
use Rattle.cu_step.specs.Outcome.{state_of}
use Rattle.machine_tests.proofs.runs.outcome_at.Given as goal

abbrev pub invariant-loop-digit : goal.invariant-loop-digit
invariant-loop-digit l = IsValid l.program (state_of (λ store. store) l.branch)
