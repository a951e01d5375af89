use Rattle.std.proofs.Common.{arith}
use Rattle.cu_sites.proofs.InsideLemmas.{declares_all, declares_more, declares_none}
use Rattle.cu_sites.proofs.definitions.declared_inside.Goals as goal

pub loop-usage-init : goal.loop-usage-init
loop-usage-init c = declares_none c.new-found.result c.new-found.ensures

pub loop-usage-preserved : goal.loop-usage-preserved
loop-usage-preserved c =
    declares_more c.args.inside.now c.loop-usage.usage-index c.usage-item.result c.as_slice.result.now c.loop-usage.found c.add_all.new.self c.usage-item.is
    (omega arith) c.as_slice.ensures.value c.loop-usage.invariant c.in_ok-add_all.ensures

pub returns : goal.returns
returns c = declares_all c.args.inside.now c.loop-usage.usage-index c.loop-usage.found (omega arith) c.loop-usage.invariant
