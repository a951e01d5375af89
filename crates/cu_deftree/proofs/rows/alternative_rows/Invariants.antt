use Rattle.std.proofs.Common.{◌≡◌, ◌++◌, drop}
use Rattle.cu_deftree.specs.Inside.NamesOf.{names_of}
use Rattle.cu_deftree.specs.Inside.RowsOf.{all_rows}
use Rattle.cu_deftree.specs.Rows.{rows_of}
use Rattle.cu_kernel.specs.TermsOf.{alternatives_of}
use Rattle.cu_deftree.proofs.rows.alternative_rows.Given as goal

abbrev pub invariant-loop-alternative : goal.invariant-loop-alternative
invariant-loop-alternative l =
    all_rows l.rows.items ++ rows_of (names_of l.around) l.position (alternatives_of (drop l.alternative-index l.alternatives))
    ≡ rows_of (names_of l.around) l.position (alternatives_of l.alternatives)
