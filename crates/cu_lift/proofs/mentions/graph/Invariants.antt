use Rattle.std.proofs.Common.{◌≡◌, ◌++◌, drop}
use Rattle.cu_lift.proofs.RowsOf.{function_rows}
use Rattle.cu_lift.specs.Inside.MentionsOf.{rows_of}
use Rattle.cu_lift.proofs.mentions.graph.Given as goal

-- the rows so far, and those of the functions that are left, are all
abbrev pub invariant-loop-function : goal.invariant-loop-function
invariant-loop-function l = rows_of l.rows.items ++ function_rows (drop l.function-index l.functions) ≡ function_rows l.functions
