use Rattle.cu_kernel.proofs.HeadLemmas.{constructor_found, constructor_missing}
use Rattle.cu_kernel.proofs.heads.Heads.constructor_arity.Goals as goal

pub returns-in-Some : goal.returns-in-Some
returns-in-Some c =
    let found = rw c.deref.ensures.value at c.in-Some.ensures.lookup in
    constructor_found c.args.self.now c.args.c c.in-Some.shape.now found.3.0 found.1

pub returns-in-None : goal.returns-in-None
returns-in-None c =
    let missing = rw c.deref.ensures.value at c.in-None.ensures.lookup in
    constructor_missing c.args.self.now c.args.c missing.3
