use Rattle.cu_faults.proofs.ToldLemmas.{told_more}
use Rattle.cu_faults.proofs.first.First.tell.Goals as goal

pub returns : goal.returns
returns c owner of =
    told_more owner c.args.self.now c.args.fault c.earlier.result c.earlier.ensures.first (c.earlier.ensures.owned owner of)
