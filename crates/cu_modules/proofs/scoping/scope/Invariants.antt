use Rattle.cu_modules.specs.Ordering.{modules_of}
use Rattle.cu_modules.proofs.OutcomeLemmas.{Done}
use Rattle.cu_modules.proofs.scoping.scope.Given as goal

abbrev pub invariant-modules : goal.invariant-modules
invariant-modules l = Done l.names (modules_of l.names l.modules) l.module-index l.tables.items l.interfaces
