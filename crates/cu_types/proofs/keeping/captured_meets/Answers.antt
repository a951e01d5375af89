use Rattle.cu_types.proofs.KeepingLemmas.{empty_meets}
use Rattle.cu_types.proofs.keeping.captured_meets.Goals as goal
use Rattle.cu_types.specs.Inside.Keeping.{numbers_from}
use Rattle.cu_types.specs.Meaning.{subst_of}

pub returns-then-is_empty : goal.returns-then-is_empty
returns-then-is_empty c =
    empty_meets (subst_of c.args.subst.now) c.args.variables.now (numbers_from c.args.first c.args.captured) c.is_empty.result
    c.is_empty.ensures c.if-is_empty.true
