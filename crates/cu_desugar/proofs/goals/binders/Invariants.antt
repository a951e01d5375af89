use Rattle.std.proofs.Common.{◌≡◌, ◌++◌, List, drop, map, ℕ}
use Rattle.cu_syntax.specs.Names.{name_meaning}
use Rattle.cu_translation.specs.Meaning.{binder_meaning}
use Rattle.cu_translation.specs.Numbering.{at_name}
use Rattle.cu_uses.specs.Gathered.{names_meaning}
use Rattle.cu_desugar.proofs.goals.binders.Given as goal

abbrev pub invariant-loop-name : goal.invariant-loop-name
invariant-loop-name l =
    (table : List (List ℕ)) → map binder_meaning l.found.items ++ map (λ x. at_name (name_meaning table x)) (drop l.name-index l.names) ≡ map at_name (names_meaning table l.names)
