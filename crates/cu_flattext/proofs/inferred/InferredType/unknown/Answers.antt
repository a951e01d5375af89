use Rattle.cu_flattext.specs.Inside.Stands.{lowered_of}
use Rattle.cu_flattext.proofs.InferredLemmas.{unknown_made}
use Rattle.cu_flattext.proofs.inferred.InferredType.unknown.Goals as goal

pub returns : goal.returns
returns c =
    unknown_made (lowered_of c.args.wording) c.empty.result c.new-tasks.result.items c.push.new.self.items c.empty.ensures c.new-tasks.ensures.items
    c.in_ok-push.ensures.items
