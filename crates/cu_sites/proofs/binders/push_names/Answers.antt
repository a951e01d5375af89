use Rattle.std.proofs.Common.{ap, map, refl}
use Rattle.cu_syntax.specs.Names.{name_meaning}
use Rattle.cu_translation.specs.declared.local_names.Binder.TheVariants as binder
use Rattle.cu_translation.specs.LocalNames.{At}
use Rattle.cu_translation.specs.Numbering.{at_name}
use Rattle.cu_uses.proofs.ListLemmas.{no_name}
use Rattle.cu_uses.specs.Gathered.{names_meaning}
use Rattle.cu_sites.proofs.CountLemmas.{counts_end, counts_pushed}
use Rattle.cu_sites.proofs.binders.push_names.Goals as goal

pub loop-name-init : goal.loop-name-init
loop-name-init c t after rest = rest

pub loop-name-preserved : goal.loop-name-preserved
loop-name-preserved c t after rest =
    c.loop-name.invariant t after
    (counts_pushed (λ xs. map at_name (names_meaning t.names xs)) (λ x. at_name (name_meaning t.names x)) (λ x xs. refl) c.args.names.now c.loop-name.name-index no_name (binder.At c.of.result)
    c.loop-name.found.items c.push.new.self.items after c.loop-name-test.true c.in_ok-push.ensures.items (ap At c.of.ensures) rest)

pub returns : goal.returns
returns c t = c.loop-name.invariant t c.loop-name.found.items (counts_end (λ xs. map at_name (names_meaning t.names xs)) refl c.args.names.now c.loop-name.name-index c.loop-name.found.items c.loop-name-test.false)
