use Rattle.std.proofs.Common.{◌≡◌, drop}
use Rattle.cu_crwl.specs.Environments.{agrees_on}
use Rattle.cu_crwl.proofs.environment.agree_on.Given as goal

abbrev pub invariant-loop-binding : goal.invariant-loop-binding
invariant-loop-binding l =
    agrees_on (drop l.binding-index l.variables) l.bindings l.new l.old ≡ agrees_on l.variables l.bindings l.new l.old
