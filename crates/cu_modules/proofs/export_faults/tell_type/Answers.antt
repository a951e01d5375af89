use Rattle.cu_entities.specs.Entities.{Types}
use Rattle.cu_syntax.specs.Items.{constructors_meaning}
use Rattle.cu_syntax.specs.Names.{name_meaning}
use Rattle.cu_uses.specs.Faults.{unless_one}
use Rattle.cu_uses.specs.declared.fault.Wrong.TheVariants.{NotExported}
use Rattle.cu_modules.specs.Faults.{constructor_faults, constructors_of}
use Rattle.cu_modules.specs.Scopes.{meant}
use Rattle.cu_modules.proofs.ListingLemmas.{same_items}
use Rattle.cu_modules.proofs.ToldLemmas.{told_both}
use Rattle.cu_modules.proofs.export_faults.tell_type.Goals as goal

pub returns : goal.returns
returns c = λ owner names bindings differ own which is.
    let n = name_meaning names c.args.name.now in
    let ts = meant bindings Types n in
    let all = constructors_of bindings ts in
    let types = c.in_ok-types.ensures owner names bindings differ own is in
    told_both owner names c.args.first.now c.tell_unless_one.new.first c.tell_constructors.new.first (unless_one NotExported n ts) (constructor_faults all (constructors_meaning names c.args.constructors.now))
    (c.tell_unless_one.ensures owner names ts own (same_items names ts c.in_ok-types.types.items c.as_slice.result.now c.as_slice.ensures.value types))
    (c.tell_constructors.ensures owner names all differ
    (same_items names all c.in_ok-all.all.items c.as_slice-3.result.now c.as_slice-3.ensures.value
    (c.in_ok-all.ensures owner names bindings ts differ is (same_items names ts c.in_ok-types.types.items c.as_slice-2.result.now c.as_slice-2.ensures.value types) tt)) which)
