use Rattle.std.proofs.Common.{List, arith, subst}
use Rattle.std.proofs.lemmas.Bool.{eq-eqb, ne_eqb}
use Rattle.std.specs.List.{flat_map}
use Rattle.cu_translation.specs.declared.local_names.Local.{Local}
use Rattle.cu_translation.specs.Dependencies.{is_bound_outside}
use Rattle.cu_translation.specs.LocalNames.{Binder}
use Rattle.cu_sites.specs.Inside.Defining.{declared_in}
use Rattle.cu_sites.specs.Inside.Using.{Finds, usages_meaning}
use Rattle.cu_sites.proofs.InsideLemmas.{deep_end, deep_left, deep_skip, deep_take, outer_left}
use Rattle.cu_sites.proofs.definitions.used_inside.Goals as goal

pub loop-usage-init : goal.loop-usage-init
loop-usage-init c end rest =
    let p = is_bound_outside (flat_map declared_in (usages_meaning c.args.inside.now)) in
    subst (λ (xs : List Local). Finds xs (deep_left p c.args.depth c.args.inside.now) end) c.new-found.ensures.items rest

pub loop-usage-preserved-then-usage-depth : goal.loop-usage-preserved-then-usage-depth
loop-usage-preserved-then-usage-depth c end rest =
    let us = c.args.inside.now in
    let u = c.usage-item.result in
    c.loop-usage.invariant end
    (deep_skip (is_bound_outside (flat_map declared_in (usages_meaning us))) c.args.depth us c.loop-usage.usage-index u c.loop-usage.found.items end
    c.usage-item.is (omega arith) (ne_eqb u.depth c.args.depth c.if-usage-depth.true) rest)

pub loop-usage-preserved : goal.loop-usage-preserved
loop-usage-preserved c end rest =
    let us = c.args.inside.now in
    let binders = flat_map declared_in (usages_meaning us) in
    let inner = c.in_ok-inner.ensures in
    c.loop-usage.invariant end
    (deep_take (is_bound_outside binders) c.args.depth us c.loop-usage.usage-index c.usage-item.result c.as_slice.result.now c.loop-usage.found.items
    c.push_outer.new.found.items end c.usage-item.is (omega arith) (eq-eqb c.usage-item.result.depth c.args.depth c.if-usage-depth.false) c.as_slice.ensures.value
    (subst (λ (bs : List Binder). Finds c.loop-usage.found.items (outer_left (is_bound_outside bs) c.as_slice.result.now) c.push_outer.new.found.items)
    inner.keys_are (c.in_ok-push_outer.ensures inner.keys inner.counted)) rest)

pub returns : goal.returns
returns c =
    let p = is_bound_outside (flat_map declared_in (usages_meaning c.args.inside.now)) in
    let all = c.loop-usage.invariant c.loop-usage.found.items (deep_end p c.args.depth c.args.inside.now c.loop-usage.usage-index c.loop-usage.found.items (omega arith)) in
    all.finds
