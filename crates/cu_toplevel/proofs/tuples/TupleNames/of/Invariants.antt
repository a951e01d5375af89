use Rattle.std.specs.HashMap.{get}
use Rattle.std.specs.Prelude.{nat_eq}
use Rattle.cu_toplevel.proofs.TupleLemmas.{UpTo}
use Rattle.cu_toplevel.proofs.tuples.TupleNames.of.Given as goal

abbrev pub invariant-names : goal.invariant-names
invariant-names l = UpTo l.names l.id (get nat_eq l.tuples.by_commas)
