use Rattle.std.specs.List.{filter}
use Rattle.cu_entities.specs.Bindings.{entities_of}
use Rattle.cu_entities.specs.declared.name_table.Key.{Key}
use Rattle.cu_modules.specs.Inside.Exporting.{is_key}
use Rattle.cu_modules.proofs.ListingLemmas.{bound_known, found_in_scope}
use Rattle.cu_modules.proofs.listing.meant.Goals as goal

pub returns : goal.returns
returns c = λ owner names bindings differ own is.
    let key : Key = record { qualifier = c.args.name.now.qualifier; base = c.args.name.now.base; space = c.args.space } in
    let s = c.args.scope.now in
    c.each_once.ensures names (entities_of (filter (is_key names key) bindings)) differ
    (found_in_scope names (is_key names key) bindings s c.as_slice.result.now c.in_ok-found.found.items c.as_slice-2.result.now c.as_slice.ensures.value is c.as_slice-2.ensures.value
    (c.in_ok-found.ensures names differ (bound_known names bindings s c.as_slice.result.now c.as_slice.ensures.value is) (record { qualifier = own.qualifier; base = own.base })))
