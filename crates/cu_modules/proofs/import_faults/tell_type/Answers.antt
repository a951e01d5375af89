use Rattle.std.proofs.Common.{◌&&◌, ap, sym}
use Rattle.std.specs.List.{filter, list_any}
use Rattle.cu_entities.specs.declared.entities.Entity.{Entity}
use Rattle.cu_entities.specs.EntityMeaning.{is_type_sort}
use Rattle.cu_syntax.specs.Items.{constructors_meaning}
use Rattle.cu_syntax.specs.Names.{name_meaning}
use Rattle.cu_modules.specs.Faults.{constructor_faults, unless}
use Rattle.cu_modules.specs.Inside.Lists.{called}
use Rattle.cu_modules.proofs.ImportFaultLemmas.{is_one_of}
use Rattle.cu_modules.proofs.ListingLemmas.{same_items}
use Rattle.cu_modules.proofs.ToldLemmas.{told_as, told_both}
use Rattle.cu_modules.proofs.import_faults.tell_type.Goals as goal

pub returns : goal.returns
returns c = λ owner names es differ own which are.
    let n = name_meaning names c.args.name.now in
    let there = list_any (λ (t : Entity). is_type_sort t.sort && called c.args.name.now t) c.args.exports.now in
    let beside = filter (is_one_of n es) es in
    told_both owner names c.args.first.now c.tell_unless.new.first c.tell_constructors.new.first (unless there n) (constructor_faults beside (constructors_meaning names c.args.constructors.now))
    (told_as owner names c.args.first.now c.tell_unless.new.first (unless there n) (unless c.is_type_exported.result n) (ap (λ b. unless b n) (sym c.is_type_exported.ensures)) (c.tell_unless.ensures owner names own))
    (c.tell_constructors.ensures owner names beside differ
    (same_items names beside c.in_ok-beside.beside.items c.as_slice.result.now c.as_slice.ensures.value (c.in_ok-beside.ensures owner names es differ own are)) which)
