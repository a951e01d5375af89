use Rattle.std.proofs.Common.{◌≡◌, ◌++◌, drop}
use Rattle.cu_calculus.specs.Choose.{rows_from}
use Rattle.cu_kernel.specs.TermsOf.{alternatives_of}
use Rattle.cu_crwl.specs.Inside.Rows.{rows_meaning}
use Rattle.cu_crwl.proofs.choose.rows_of.Given as goal

abbrev pub invariant-loop-choice : goal.invariant-loop-choice
invariant-loop-choice l =
    rows_meaning l.rows.items ++ rows_from l.choice (alternatives_of (drop l.choice l.alternatives)) ≡ rows_from 0 (alternatives_of l.alternatives)
