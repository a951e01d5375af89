use Rattle.std.proofs.Common.{List, [], ◌++◌, drop}
use Rattle.cu_translation.specs.declared.local_names.Binder as code
use Rattle.cu_sites.specs.Inside.Counting.{Counts}
use Rattle.cu_sites.specs.Inside.Defining.{definitions_meaning}
use Rattle.cu_sites.specs.Inside.Needing.{defined_variables, used_variables}
use Rattle.cu_sites.specs.Inside.Using.{usages_meaning}
use Rattle.cu_sites.proofs.dependencies.variables.Given as goal

abbrev pub invariant-loop-usage : goal.invariant-loop-usage
invariant-loop-usage l =
    (after : List code.Binder) → Counts l.found.items (used_variables (usages_meaning (drop l.usage-index l.usages))) after
    → Counts [] (used_variables (usages_meaning l.usages)) after

abbrev pub invariant-loop-definition : goal.invariant-loop-definition
invariant-loop-definition l =
    (after : List code.Binder) → Counts l.found.items (defined_variables (definitions_meaning (drop l.definition-index l.definitions))) after
    → Counts [] (used_variables (usages_meaning l.usages) ++ defined_variables (definitions_meaning l.definitions)) after
