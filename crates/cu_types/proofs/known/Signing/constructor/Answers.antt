use Rattle.std.proofs.Common.{[], sym, ap}
use Rattle.std.proofs.lemmas.List.{get_or_read}
use Rattle.cu_kernel.specs.TypeExpr as type
use Rattle.cu_types.proofs.KnownLemmas.{past_default}
use Rattle.cu_types.specs.Equations as asked
use Rattle.cu_types.proofs.known.Signing.constructor.Goals as goal

pub returns-in-Some : goal.returns-in-Some
returns-in-Some c =
    let found = c.in-Some.ensures.lookup in
    ap (asked.Polymorphic [])
    (get_or_read c.args.self.now.constructors.now c.args.c.0 c.in-Some.shared.now found.3.0 found.1 (type.Variable 0))

pub returns-in-None : goal.returns-in-None
returns-in-None c =
    sym (ap (asked.Polymorphic []) (past_default c.args.self.now.constructors.now c.args.c.0 (type.Variable 0) c.in-None.ensures.lookup.3))
