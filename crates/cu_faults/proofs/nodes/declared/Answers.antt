use Rattle.cu_uses.proofs.FoundLemmas.{on_ok}
use Rattle.cu_faults.proofs.NodeLemmas.{patterns_faults}
use Rattle.cu_faults.proofs.ToldLemmas.{told_as, told_both}
use Rattle.cu_faults.proofs.nodes.declared.Goals as goal

pub returns : goal.returns
returns g c w tells differ all =
    on_ok c.tell_variables.result (λ rest. told_as (patterns_faults w c.args.ps.now) (told_both (c.in_ok-patterns.ensures w tells all) rest)) (c.tell_variables.ensures w differ all)
