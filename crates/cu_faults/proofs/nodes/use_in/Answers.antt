use Rattle.std.proofs.Common.{sym, ◌∙◌}
use Rattle.cu_faults.specs.Telling.{setting}
use Rattle.cu_faults.proofs.NodeLemmas.{scope_seen}
use Rattle.cu_faults.proofs.ToldLemmas.{told_as, told_none}
use Rattle.cu_faults.proofs.UseLemmas.{no_set_name_used}
use Rattle.cu_faults.proofs.nodes.use_in.Goals as goal

pub returns-then-not-is_set_name : goal.returns-then-not-is_set_name
returns-then-not-is_set_name g c t a inner tells spot of all =
    told_as
    (sym (no_set_name_used (setting t a) inner.scope c.args.applied.name c.args.applied.arguments.now c.value.result (c.value.ensures (setting t a) tells of)
    (sym c.is_set_name.ensures ∙ c.if-not-is_set_name.true)))
    (told_none t.owner c.args.first.now)

pub returns : goal.returns
returns g c t a inner tells spot of all =
    let sees = scope_seen t a inner.scope c.in_ok-entries.entries.items c.as_slice.result.now c.outermost-scope.result (c.in_ok-entries.ensures t inner spot) c.as_slice.ensures.value
    c.outermost-scope.ensures in
    c.use_at.ensures (setting t a) inner.scope tells sees of all
