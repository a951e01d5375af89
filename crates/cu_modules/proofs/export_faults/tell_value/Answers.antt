use Rattle.cu_entities.specs.Entities.{Values}
use Rattle.cu_syntax.specs.Names.{name_meaning}
use Rattle.cu_modules.specs.Scopes.{meant}
use Rattle.cu_modules.proofs.ListingLemmas.{same_items}
use Rattle.cu_modules.proofs.export_faults.tell_value.Goals as goal

pub returns : goal.returns
returns c = λ owner names bindings differ own is.
    let es = meant bindings Values (name_meaning names c.args.name.now) in
    c.tell_unless_one.ensures owner names es own
    (same_items names es c.in_ok-found.found.items c.as_slice.result.now c.as_slice.ensures.value (c.in_ok-found.ensures owner names bindings differ own is))
