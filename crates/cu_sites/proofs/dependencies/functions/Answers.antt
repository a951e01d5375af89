use Rattle.std.proofs.Common.{[], List, Option, option_map, refl, subst, sym}
use Rattle.std.specs.Option.{option_to_list}
use Rattle.cu_translation.specs.declared.position.Position.{Position}
use Rattle.cu_translation.specs.Meaning.{position_meaning}
use Rattle.cu_sites.specs.Inside.Counting.{Lists}
use Rattle.cu_sites.specs.Inside.Needing.{function_around, functions_around}
use Rattle.cu_sites.specs.Inside.Using.{usage_meaning, usages_meaning}
use Rattle.cu_sites.proofs.CountLemmas.{lists_all, lists_end, lists_none, lists_one, lists_prefix}
use Rattle.cu_sites.proofs.dependencies.functions.Goals as goal

pub loop-usage-init : goal.loop-usage-init
loop-usage-init c after rest =
    subst (λ (xs : List Position). Lists xs (functions_around (usages_meaning c.args.usages.now)) after) c.new-found.ensures.items rest

pub loop-usage-preserved-in_default : goal.loop-usage-preserved-in_default
loop-usage-preserved-in_default c after rest =
    let found = c.loop-usage.found.items in
    c.loop-usage.invariant after
    (lists_prefix (λ us. functions_around (usages_meaning us)) (λ u. function_around (usage_meaning u)) (λ u us. refl) c.args.usages.now c.loop-usage.usage-index
    c.usage-item.result found found after c.usage-item.is c.loop-usage-test.true
    (subst (λ (f : Option Position). Lists found (option_to_list (option_map position_meaning f)) found) (sym c.in_default.is) (lists_none found)) rest)

pub loop-usage-preserved : goal.loop-usage-preserved
loop-usage-preserved c after rest =
    let found = c.loop-usage.found.items in
    let more = c.push.new.self.items in
    let f = c.in-Some.function in
    c.loop-usage.invariant after
    (lists_prefix (λ us. functions_around (usages_meaning us)) (λ u. function_around (usage_meaning u)) (λ u us. refl) c.args.usages.now c.loop-usage.usage-index
    c.usage-item.result found more after c.usage-item.is c.loop-usage-test.true
    (subst (λ (o : Option Position). Lists found (option_to_list (option_map position_meaning o)) more) (sym c.in-Some.is)
    (lists_one found more f (position_meaning f) c.in_ok-push.ensures.items refl)) rest)

pub returns : goal.returns
returns c =
    let us = c.args.usages.now in
    lists_all [] c.loop-usage.found.items (functions_around (usages_meaning us)) refl
    (c.loop-usage.invariant c.loop-usage.found.items
    (lists_end (λ vs. functions_around (usages_meaning vs)) refl us c.loop-usage.usage-index c.loop-usage.found.items c.loop-usage-test.false))
