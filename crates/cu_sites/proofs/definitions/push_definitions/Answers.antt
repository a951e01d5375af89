use Rattle.std.proofs.Common.{◌∙◌, refl}
use Rattle.cu_translation.specs.declared.local_names.Binder.TheVariants as binder
use Rattle.cu_sites.specs.declared.definitions.Definition.{Definition}
use Rattle.cu_sites.specs.Inside.Using.{usages_meaning}
use Rattle.cu_sites.proofs.InsideLemmas.{bound_found, bound_owned, defined_found}
use Rattle.cu_uses.proofs.FoundLemmas.{on_ok}
use Rattle.cu_sites.proofs.definitions.push_definitions.Goals as goal

pub returns-in_ok-push-in-Defined : goal.returns-in_ok-push-in-Defined
returns-in_ok-push-in-Defined c t entries blocks n others is inner =
    let d : Definition = record { variable = binder.At c.of.result; used = c.in_ok-used-in-Defined.used } in
    defined_found t entries blocks c.args.node.now n others c.in-Defined.x c.in-Defined.field-1 c.of.result (usages_meaning c.args.right_side.now) d
    c.args.found.now.items c.push.new.self.items is c.in-Defined.is inner c.in_ok-used-in-Defined.ensures refl c.of.ensures c.in_ok-push-in-Defined.ensures.items

pub returns-in_ok-push-in-Bound : goal.returns-in_ok-push-in-Bound
returns-in_ok-push-in-Bound c t entries blocks n others is inner =
    let d : Definition = record { variable = binder.Whole c.of-in-Bound.result; used = c.in_ok-used-in-Bound.used } in
    on_ok c.push_selections.result
    (λ after.
    bound_found t entries blocks c.args.node.now n others c.in-Bound.p c.in-Bound.field-1 c.of-in-Bound.result (usages_meaning c.args.right_side.now) d
    c.args.found.now.items c.push-in-Bound.new.self.items c.push_selections.new.found.items is c.in-Bound.is inner c.in_ok-used-in-Bound.ensures refl
    (c.of-in-Bound.ensures ∙ c.place.ensures.position t.names) c.in_ok-push-in-Bound.ensures.items after)
    (c.push_selections.ensures t (bound_owned t blocks c.args.node.now.site n.site c.in-Bound.p c.in-Bound.field-1 is.site c.in-Bound.is))
