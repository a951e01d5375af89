use Rattle.std.proofs.Common.{◌∙◌, ◌++◌, ap}
use Rattle.std.specs.List.{flat_map}
use Rattle.cu_syntax.specs.Items.{constructors_meaning}
use Rattle.cu_modules.specs.Scopes.{constructors_in}
use Rattle.cu_modules.proofs.ListingLemmas.{both, same_items}
use Rattle.cu_modules.proofs.listing.type_exports.Goals as goal

pub returns : goal.returns
returns c = λ owner names bindings ts differ is are own.
    both names ts (flat_map (constructors_in bindings (constructors_meaning names c.args.constructors.now)) ts) c.args.types.items c.in_ok-more.more.items c.extend_from_slice.new.self.items
    (c.in_ok-extend_from_slice.ensures.items ∙ ap (λ es. c.args.types.items ++ es) c.as_slice-2.ensures.value) are
    (c.in_ok-more.ensures owner names bindings ts differ is (same_items names ts c.args.types.items c.as_slice.result.now c.as_slice.ensures.value are) own)
