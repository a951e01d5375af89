use Rattle.std.proofs.Common.{map, refl}
use Rattle.cu_syntax.specs.Items as items
use Rattle.cu_syntax.specs.Owners.{EntityIsOf}
use Rattle.cu_modules.specs.Faults.{import_entity_faults}
use Rattle.cu_modules.proofs.ToldLemmas.{at_index, told_more, told_none, told_whole}
use Rattle.cu_modules.proofs.import_faults.tell_entries.Goals as goal

pub entries-init : goal.entries-init
entries-init c = λ owner names es differ owned are. told_none owner names c.args.first.now

pub entries-preserved : goal.entries-preserved
entries-preserved c = λ owner names es differ owned are.
    let xs = c.args.entries.now in
    let i = c.entries.entry-index in
    let x = c.entry-item.result in
    told_more owner names (import_entity_faults es) (items.entity_meaning names) xs i x x c.args.first.now c.entries.first c.tell_entry.new.first c.entries-test.true c.entry-item.is
    (c.in_ok-tell_entry.ensures owner names es differ (at_index (EntityIsOf owner names) xs i x c.entries-test.true c.entry-item.is owned) are) (c.entries.invariant owner names es differ owned are)

pub returns : goal.returns
returns c = λ owner names es differ owned are.
    told_whole owner names (import_entity_faults es) (items.entity_meaning names) c.args.entries.now c.entries.entry-index (map (items.entity_meaning names) c.args.entries.now) c.args.first.now c.entries.first
    c.entries-test.false refl (c.entries.invariant owner names es differ owned are)
