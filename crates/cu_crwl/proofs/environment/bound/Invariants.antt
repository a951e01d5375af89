use Rattle.std.proofs.Common.{◌≡◌, drop}
use Rattle.cu_crwl.specs.Environments.{lookup}
use Rattle.cu_crwl.proofs.environment.bound.Given as goal

abbrev pub invariant-loop-binding : goal.invariant-loop-binding
invariant-loop-binding l = lookup (drop l.binding-index l.bindings) l.variable ≡ lookup l.bindings l.variable
