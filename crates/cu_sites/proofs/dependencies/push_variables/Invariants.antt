use Rattle.std.proofs.Common.{List, drop}
use Rattle.cu_translation.specs.declared.local_names.Binder as code
use Rattle.cu_sites.specs.Inside.Counting.{Counts}
use Rattle.cu_sites.specs.Inside.Needing.{variables_in}
use Rattle.cu_sites.specs.Inside.Using.{locals_meaning}
use Rattle.cu_sites.proofs.dependencies.push_variables.Given as goal

abbrev pub invariant-loop-local : goal.invariant-loop-local
invariant-loop-local l =
    (after : List code.Binder) → Counts l.found.items (variables_in (locals_meaning (drop l.local-index l.used))) after
    → Counts l.fn.found.items (variables_in (locals_meaning l.used)) after
