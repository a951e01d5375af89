use Rattle.std.proofs.Common.{◌≡◌, ◌++◌, drop}
use Rattle.cu_calculus.specs.Choose.{list_patterns}
use Rattle.cu_deftree.specs.Rows.{names_at_all}
use Rattle.cu_kernel.specs.TermsOf.{patterns_of}
use Rattle.cu_deftree.proofs.patterns.push_all_names.Given as goal

abbrev pub invariant-loop-i : goal.invariant-loop-i
invariant-loop-i l =
    l.names.items ++ names_at_all (drop l.i l.positions) (list_patterns (patterns_of (drop l.i l.patterns)))
    ≡ l.fn.names.items ++ names_at_all l.positions (list_patterns (patterns_of l.patterns))
