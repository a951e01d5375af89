use Rattle.std.proofs.Common.{take}
use Rattle.cu_sites.specs.Inside.Defining.{DeclaresAll}
use Rattle.cu_sites.specs.Inside.Using.{usages_meaning}
use Rattle.cu_sites.proofs.definitions.declared_inside.Given as goal

abbrev pub invariant-loop-usage : goal.invariant-loop-usage
invariant-loop-usage l = DeclaresAll (usages_meaning (take l.usage-index l.inside)) l.found
