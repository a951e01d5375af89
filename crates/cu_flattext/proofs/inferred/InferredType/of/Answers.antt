use Rattle.cu_flattext.specs.Inside.Stands.{lowered_of}
use Rattle.cu_flattext.proofs.InferredLemmas.{inferred_made}
use Rattle.cu_flattext.proofs.inferred.InferredType.of.Goals as goal

pub returns : goal.returns
returns c =
    inferred_made (lowered_of c.args.wording) c.in_ok-count.count c.open-opened.result.place c.new.result c.open-opened.result.types.now
    c.args.inferred.now c.new-tasks.result.items c.push.new.self.items c.in_ok-count.ensures c.new.ensures c.open-opened.ensures.value
    c.new-tasks.ensures.items c.in_ok-push.ensures.items
