use Rattle.std.proofs.Common.{◌≡◌, ◌∷◌, []}
use Rattle.cu_calculus.specs.Choose.{rows_from}
use Rattle.cu_calculus.specs.Chosen.{chosen, looks}
use Rattle.cu_kernel.specs.Heads.{heads_program}
use Rattle.cu_kernel.specs.TermsOf.{alternatives_of}
use Rattle.cu_crwl.specs.Inside.Rows.{rows_meaning}
use Rattle.cu_crwl.proofs.choose.chosen.Given as goal

abbrev pub invariant-loop-values : goal.invariant-loop-values
invariant-loop-values l =
    chosen (heads_program l.heads) (rows_meaning l.rows.items) l.values.items
    ≡ chosen (heads_program l.heads) (rows_from 0 (alternatives_of l.alternatives)) (l.value ∷ [])

abbrev pub decreases-loop-values : goal.decreases-loop-values
decreases-loop-values l = looks (rows_meaning l.rows.items)
