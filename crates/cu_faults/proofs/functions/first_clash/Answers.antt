use Rattle.std.specs.List.{flat_map}
use Rattle.cu_translation.specs.Faults.{clashes_of}
use Rattle.cu_faults.proofs.ToldLemmas.{all_told}
use Rattle.cu_faults.proofs.functions.first_clash.Goals as goal

pub returns : goal.returns
returns g c t a nodes tells stands =
    let faults = flat_map (clashes_of a.names) nodes in
    c.fault.ensures t.owner faults (all_told t.owner faults c.new-first.result c.tell_clashes.new.first (c.new-first.ensures t.owner) (c.in_ok-tell_clashes.ensures t a nodes tells stands))
