use Rattle.std.proofs.Common.{◌≡◌, drop, flat_map, map}
use Rattle.std.specs.List.{list_all}
use Rattle.cu_kernel.specs.LocalKernelOf.{local_function_meaning}
use Rattle.cu_kernel.specs.LocalValid.{local_rules, rule_passes}
use Rattle.cu_parts.specs.Inside.KnownHeads.{known_heads}
use Rattle.cu_parts.proofs.scoped.locals_pass.Given as goal

-- the rules that are left pass where all do
abbrev pub invariant-loop-function : goal.invariant-loop-function
invariant-loop-function l =
    list_all (rule_passes (known_heads l.known)) (flat_map local_rules (map local_function_meaning (drop l.function-index l.locals)))
    ≡ list_all (rule_passes (known_heads l.known)) (flat_map local_rules (map local_function_meaning l.locals))
