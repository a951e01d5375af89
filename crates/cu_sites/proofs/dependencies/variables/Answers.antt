use Rattle.std.proofs.Common.{◌++◌, [], List, refl, subst}
use Rattle.cu_translation.specs.declared.local_names.Binder as code
use Rattle.cu_translation.specs.declared.local_names.Local.{Local}
use Rattle.cu_translation.specs.Meaning.{binder_meaning}
use Rattle.cu_sites.specs.Inside.Counting.{Counts}
use Rattle.cu_sites.specs.Inside.Defining.{definition_meaning, definitions_meaning}
use Rattle.cu_sites.specs.Inside.Needing.{defined_variables, used_variables, variables_in, variables_of, variables_used}
use Rattle.cu_sites.specs.Inside.Using.{locals_meaning, usage_meaning, usages_meaning}
use Rattle.cu_sites.proofs.CountLemmas.{counts_all, counts_both, counts_end, counts_one, counts_prefix}
use Rattle.cu_sites.proofs.dependencies.variables.Goals as goal

pub loop-usage-init : goal.loop-usage-init
loop-usage-init c after rest =
    subst (λ (xs : List code.Binder). Counts xs (used_variables (usages_meaning c.args.usages.now)) after) c.new-found.ensures.items rest

pub loop-usage-preserved : goal.loop-usage-preserved
loop-usage-preserved c after rest =
    c.loop-usage.invariant after
    (counts_prefix (λ us. used_variables (usages_meaning us)) (λ u. variables_used (usage_meaning u)) (λ u us. refl) c.args.usages.now c.loop-usage.usage-index
    c.usage-item.result c.loop-usage.found.items c.push_variables.new.found.items after c.usage-item.is c.loop-usage-test.true
    (subst (λ (ls : List Local). Counts c.loop-usage.found.items (variables_in (locals_meaning ls)) c.push_variables.new.found.items) c.as_slice.ensures.value
    c.in_ok-push_variables.ensures) rest)

pub loop-definition-init : goal.loop-definition-init
loop-definition-init c after rest =
    counts_both
    (c.loop-usage.invariant c.loop-usage.found.items
    (counts_end (λ us. used_variables (usages_meaning us)) refl c.args.usages.now c.loop-usage.usage-index c.loop-usage.found.items c.loop-usage-test.false))
    rest

pub loop-definition-preserved : goal.loop-definition-preserved
loop-definition-preserved c after rest =
    let d = c.definition-item.result in
    c.loop-definition.invariant after
    (counts_prefix (λ ds. defined_variables (definitions_meaning ds)) (λ e. variables_of (definition_meaning e)) (λ e ds. refl) c.args.definitions.now
    c.loop-definition.definition-index d c.loop-definition.found.items c.push_variables-in-loop-definition.new.found.items after c.definition-item.is
    c.loop-definition-test.true
    (counts_both (counts_one c.loop-definition.found.items c.push.new.self.items d.variable (binder_meaning d.variable) c.in_ok-push.ensures.items refl)
    (subst (λ (ls : List Local). Counts c.push.new.self.items (variables_in (locals_meaning ls)) c.push_variables-in-loop-definition.new.found.items)
    c.as_slice-in-loop-definition.ensures.value c.in_ok-push_variables-2.ensures)) rest)

pub returns : goal.returns
returns c =
    let all = used_variables (usages_meaning c.args.usages.now) ++ defined_variables (definitions_meaning c.args.definitions.now) in
    counts_all [] c.loop-definition.found.items all refl
    (c.loop-definition.invariant c.loop-definition.found.items
    (counts_end (λ ds. defined_variables (definitions_meaning ds)) refl c.args.definitions.now c.loop-definition.definition-index c.loop-definition.found.items
    c.loop-definition-test.false))
