use Rattle.std.proofs.Common.{List, [], drop}
use Rattle.cu_translation.specs.declared.position.Position.{Position}
use Rattle.cu_sites.specs.Inside.Counting.{Lists}
use Rattle.cu_sites.specs.Inside.Needing.{functions_around}
use Rattle.cu_sites.specs.Inside.Using.{usages_meaning}
use Rattle.cu_sites.proofs.dependencies.functions.Given as goal

abbrev pub invariant-loop-usage : goal.invariant-loop-usage
invariant-loop-usage l =
    (after : List Position) → Lists l.found.items (functions_around (usages_meaning (drop l.usage-index l.usages))) after
    → Lists [] (functions_around (usages_meaning l.usages)) after
