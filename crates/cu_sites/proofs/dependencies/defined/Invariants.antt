use Rattle.std.proofs.Common.{List, [], drop, map}
use Rattle.cu_translation.specs.declared.local_names.Binder as code
use Rattle.cu_sites.specs.Depending.{is_defined}
use Rattle.cu_sites.specs.Inside.Counting.{Counts}
use Rattle.cu_sites.specs.Inside.Defining.{definitions_meaning}
use Rattle.cu_sites.proofs.dependencies.defined.Given as goal

abbrev pub invariant-loop-definition : goal.invariant-loop-definition
invariant-loop-definition l =
    (after : List code.Binder) → Counts l.found.items (map is_defined (definitions_meaning (drop l.definition-index l.definitions))) after
    → Counts [] (map is_defined (definitions_meaning l.definitions)) after
