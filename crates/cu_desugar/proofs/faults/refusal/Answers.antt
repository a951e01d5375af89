use Rattle.std.specs.List.{flat_map}
use Rattle.cu_translation.specs.Faults.{group_clashes, group_faults}
use Rattle.cu_desugar.proofs.RefusalLemmas.{by_clash, by_other}
use Rattle.cu_desugar.proofs.faults.refusal.Goals as goal

pub returns-in-Some : goal.returns-in-Some
returns-in-Some c t names whole top are =
    by_clash t.owner (flat_map (group_clashes names) whole) (flat_map (group_faults names) whole) c.in_ok-clash.clash c.in-Some.clash c.in-Some.is (c.in_ok-clash.ensures t names whole top are)

pub returns-in-None : goal.returns-in-None
returns-in-None c t names whole top are =
    by_other t.owner (flat_map (group_clashes names) whole) (flat_map (group_faults names) whole) c.in_ok-clash.clash c.first_fault.result c.in-None.is (c.in_ok-clash.ensures t names whole top are)
    (c.first_fault.ensures t names whole top are)
