use Rattle.std.proofs.Common.{◌≡◌, drop}
use Rattle.cu_deftree.specs.Lowering.{variables}
use Rattle.cu_deftree.proofs.NameLaws.{then_patterns}
use Rattle.cu_deftree.proofs.patterns.variables.Given as goal

abbrev pub invariant-loop-name : goal.invariant-loop-name
invariant-loop-name l = then_patterns l.all.items (variables (drop l.name-index l.names)) ≡ variables l.names
