use Rattle.std.proofs.Common.{◌≡◌, ◌++◌, drop}
use Rattle.cu_cycles.specs.Graph.{rows_in}
use Rattle.cu_lift.specs.Inside.MentionsOf.{targets_in}
use Rattle.cu_lift.proofs.mentions.edges.Given as goal

-- the rows so far, and those of the mentions that are left, are all
abbrev pub invariant-loop-row : goal.invariant-loop-row
invariant-loop-row l = rows_in l.edges.items ++ targets_in (drop l.row-index l.rows) ≡ targets_in l.rows
