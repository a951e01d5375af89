use Rattle.std.proofs.Common.{◌≤◌}
use Rattle.cu_desugar.specs.Modules.{named}
use Rattle.cu_front.specs.Inside.Outcomes.{IsOutcomeOf}
use Rattle.cu_front.proofs.translated.modules_program.Given as goal

-- the outcome for the modules so far, of which there is one at least
abbrev pub invariant-loop-number : goal.invariant-loop-number
invariant-loop-number l =
    (1 ≤ l.number) × IsOutcomeOf l.modules.names.now (named l.modules) l.number l.so_far
