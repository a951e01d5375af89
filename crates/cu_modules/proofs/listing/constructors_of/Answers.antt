use Rattle.std.proofs.Common.{get_or, refl}
use Rattle.cu_entities.specs.EntityMeaning.{entity_meaning}
use Rattle.cu_syntax.specs.Items.{constructors_meaning}
use Rattle.cu_modules.specs.Scopes.{constructors_in}
use Rattle.cu_modules.proofs.BindingLemmas.{no_entity}
use Rattle.cu_modules.proofs.ListingLemmas.{all_flat, bound_known, in_scope, one_flat}
use Rattle.cu_modules.proofs.listing.constructors_of.Goals as goal

pub types-preserved : goal.types-preserved
types-preserved c = λ owner names bindings differ is known own.
    let ts = c.args.types.now in
    let i = c.types.t-index in
    let t = get_or ts i no_entity in
    let which = constructors_meaning names c.args.constructors.now in
    let s = c.args.scope.now in
    one_flat names (constructors_in bindings which) (entity_meaning names) ts i t no_entity c.types.all.items c.as_slice-in-types.result.now c.in_ok-more.more.items c.extend_from_slice.new.self.items c.types-test.true refl
    c.as_slice-in-types.ensures.value c.in_ok-extend_from_slice.ensures.items
    (in_scope names which (entity_meaning names t) bindings s c.as_slice.result.now c.in_ok-more.more.items c.as_slice.ensures.value is
    (c.in_ok-more.ensures owner names differ (bound_known names bindings s c.as_slice.result.now c.as_slice.ensures.value is) (known i no_entity c.types-test.true) own))
    (c.types.invariant owner names bindings differ is known own)

pub returns : goal.returns
returns c = λ owner names bindings ts differ is are own.
    all_flat names (constructors_in bindings (constructors_meaning names c.args.constructors.now)) (entity_meaning names) c.args.types.now c.types.t-index ts c.types.all.items c.types-test.false are.are
    (c.types.invariant owner names bindings differ is are.known own)
