use Rattle.std.proofs.Common.{◌≡◌, drop, map}
use Rattle.std.specs.List.{list_all}
use Rattle.cu_calculus.specs.Proof.{is_statement_of}
use Rattle.cu_kernel.specs.Heads.{heads_program}
use Rattle.cu_crwl.specs.Meaning.{step_of}
use Rattle.cu_crwl.proofs.check.steps_are_of.Given as goal

abbrev pub invariant-loop-step : goal.invariant-loop-step
invariant-loop-step l =
    list_all (λ step. is_statement_of (heads_program l.heads) step.statement) (map step_of (drop l.step-index l.steps))
    ≡ list_all (λ step. is_statement_of (heads_program l.heads) step.statement) (map step_of l.steps)
