use Rattle.std.proofs.Common.{sym}
use Rattle.cu_sites.specs.Meaning.{group_meaning}
use Rattle.cu_translation.specs.Functions.{around_group, group_nodes}
use Rattle.cu_uses.proofs.FoundLemmas.{on_ok}
use Rattle.cu_faults.proofs.ToldLemmas.{told_both}
use Rattle.cu_faults.proofs.functions.tell_function.Goals as goal

pub returns : goal.returns
returns g c t names tells of stands are =
    let group = group_meaning t.names c.args.group.now in
    on_ok c.tell_text.result
    (λ rest. told_both (c.tell_rules.ensures t.owner t.names of) (told_both (c.tell_length.ensures t.owner t.names of) rest))
    (c.tell_text.ensures t (around_group names group) (group_nodes group) (sym of.first.place) tells stands are)
