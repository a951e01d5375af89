use Rattle.std.proofs.Common.{◌≡◌, drop, map}
use Rattle.std.specs.List.{list_all}
use Rattle.cu_kernel.specs.LocalKernelOf.{local_rule_meaning}
use Rattle.cu_kernel.specs.LocalValid.{has_arity}
use Rattle.cu_parts.proofs.scoped.have_arity.Given as goal

-- the rules that are left pass where all do
abbrev pub invariant-loop-rule : goal.invariant-loop-rule
invariant-loop-rule l = list_all (has_arity l.arity) (map local_rule_meaning (drop l.rule-index l.rules)) ≡ list_all (has_arity l.arity) (map local_rule_meaning l.rules)
