use Rattle.std.proofs.Common.{subst, sym}
use Rattle.std.specs.List.{flat_map}
use Rattle.cu_translation.specs.Dependencies.{definitions}
use Rattle.cu_translation.specs.Faults.{recursive_fault}
use Rattle.cu_uses.proofs.FoundLemmas.{on_ok}
use Rattle.cu_faults.specs.Telling.{Told}
use Rattle.cu_faults.proofs.ToldLemmas.{told_both}
use Rattle.cu_faults.proofs.functions.tell_text.Goals as goal

pub returns : goal.returns
returns g c t a nodes owner tells stands are =
    on_ok c.tell_recursive.result
    (λ rest. told_both (c.in_ok-tell_nodes.ensures t a nodes tells stands)
    (subst (λ o. Told o c.tell_nodes.new.first (flat_map (recursive_fault nodes) (definitions nodes)) c.tell_recursive.new.first) (sym owner) rest))
    (c.tell_recursive.ensures nodes are)
