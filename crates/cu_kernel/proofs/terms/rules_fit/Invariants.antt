use Rattle.std.proofs.Common.{◌≡◌, drop, map}
use Rattle.std.specs.List.{list_all}
use Rattle.cu_calculus.specs.Valid.{fits_rule}
use Rattle.cu_kernel.specs.Heads.{heads_program}
use Rattle.cu_kernel.specs.KernelOf.{rule_meaning}
use Rattle.cu_kernel.proofs.terms.rules_fit.Given as goal

-- the rules that are left fit where all do
abbrev pub invariant-loop-rule : goal.invariant-loop-rule
invariant-loop-rule l =
    list_all (fits_rule (heads_program l.heads) l.arity) (map rule_meaning (drop l.rule-index l.rules))
    ≡ list_all (fits_rule (heads_program l.heads) l.arity) (map rule_meaning l.rules)
