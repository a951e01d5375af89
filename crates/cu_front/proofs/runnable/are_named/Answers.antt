use Rattle.cu_front.proofs.NamedLemmas.{named_all}
use Rattle.cu_front.proofs.runnable.are_named.Goals as goal

pub returns : goal.returns
returns c =
    named_all c.args.names.now c.parts.result.now c.args.local.now c.as_slice-functions.result.now
    c.count-count.result c.all_below.result c.count-count.ensures.count c.parts.ensures.parts
    c.as_slice-functions.ensures.value c.all_below.ensures
