use Rattle.std.proofs.Common.{◌≡◌, ◌++◌, drop}
use Rattle.cu_deftree.specs.Inside.Groups.{indices}
use Rattle.cu_deftree.specs.declared.patterns.Choice.{Choice}
use Rattle.cu_deftree.proofs.GroupSteps.{demanding_at}
use Rattle.cu_deftree.proofs.groups.Groups.new.Given as goal

abbrev pub invariant-loop-index : goal.invariant-loop-index
invariant-loop-index l =
    (c : Choice)
    → indices l.groups c ++ demanding_at l.position c l.index (drop l.index l.rows) ≡ demanding_at l.position c 0 l.rows
