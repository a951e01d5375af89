use Rattle.std.proofs.Common.{refl, subst, sym}
use Rattle.cu_translation.specs.declared.local_names.Binder.TheVariants as binder
use Rattle.cu_translation.specs.declared.local_names.Local.{Local}
use Rattle.cu_translation.specs.declared.local_names.Local.TheVariants as local
use Rattle.cu_translation.specs.Meaning.{binder_meaning, local_meaning}
use Rattle.cu_sites.specs.Inside.Counting.{Counts}
use Rattle.cu_sites.specs.Inside.Needing.{variable_in, variables_in}
use Rattle.cu_sites.specs.Inside.Using.{locals_meaning}
use Rattle.cu_sites.proofs.CountLemmas.{counts_end, counts_next, counts_one}
use Rattle.cu_sites.proofs.dependencies.push_variables.Goals as goal

pub loop-local-init : goal.loop-local-init
loop-local-init c after rest = rest

pub loop-local-preserved : goal.loop-local-preserved
loop-local-preserved c after rest =
    let found = c.loop-local.found.items in
    let more = c.push.new.self.items in
    let b = c.in-Variable.binder in
    let d : Local = local.Variable (binder.At (record { line = 0; column = 0 })) in
    c.loop-local.invariant after
    (counts_next (λ ls. variables_in (locals_meaning ls)) (λ l. variable_in (local_meaning l)) (λ l ls. refl) c.args.used.now c.loop-local.local-index d found
    more after c.loop-local-test.true
    (subst (λ (l : Local). Counts found (variable_in (local_meaning l)) more) (sym c.in-Variable.is)
    (counts_one found more b (binder_meaning b) c.in_ok-push.ensures.items refl)) rest)

pub returns : goal.returns
returns c =
    c.loop-local.invariant c.loop-local.found.items
    (counts_end (λ ls. variables_in (locals_meaning ls)) refl c.args.used.now c.loop-local.local-index c.loop-local.found.items c.loop-local-test.false)
