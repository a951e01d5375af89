use Rattle.std.proofs.Common.{List, drop}
use Rattle.cu_sites.specs.Depending.{AreDependencies}
use Rattle.cu_translation.specs.Sites.{Node}
use Rattle.cu_faults.specs.declared.first.First.{First}
use Rattle.cu_faults.specs.Telling.{Told}
use Rattle.cu_faults.proofs.RecursiveLemmas.{all_recursive}
use Rattle.cu_faults.proofs.functions.tell_recursive.Given as goal

-- what is left to tell gives all that is told
abbrev pub invariant-loop-variable : goal.invariant-loop-variable
invariant-loop-variable l =
    (nodes : List Node) (after : First) → AreDependencies nodes l.dependencies
    → Told l.owner l.first (all_recursive nodes (drop l.variable-index l.variable-items)) after
    → Told l.owner l.fn.first (all_recursive nodes l.variable-items) after
