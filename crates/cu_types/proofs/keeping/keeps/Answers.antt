use Rattle.cu_types.proofs.KeptLemmas.{group_keeps}
use Rattle.cu_types.proofs.keeping.keeps.Goals as goal
use Rattle.cu_types.specs.Equations.{members}
use Rattle.cu_types.specs.Meaning.{subst_of}

pub returns : goal.returns
returns c = λ kernel are.
    let told = c.in_ok-kept.ensures kernel (members kernel c.args.group.now) are in
    group_keeps kernel (subst_of c.args.subst.now) c.args.group.now c.in_ok-kept.kept told.0 told.1
