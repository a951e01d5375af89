use Rattle.std.proofs.Common.{refl}
use Rattle.cu_syntax.specs.Names.{name_meaning}
use Rattle.cu_uses.proofs.ListLemmas.{no_name}
use Rattle.cu_uses.specs.Gathered.{names_meaning}
use Rattle.cu_sites.specs.Inside.Counting.{name_places}
use Rattle.cu_sites.proofs.CountLemmas.{lists_end, lists_pushed}
use Rattle.cu_sites.proofs.binders.push_name_places.Goals as goal

pub loop-name-init : goal.loop-name-init
loop-name-init c t after rest = rest

pub loop-name-preserved : goal.loop-name-preserved
loop-name-preserved c t after rest =
    c.loop-name.invariant t after
    (lists_pushed (λ xs. name_places (names_meaning t.names xs)) (λ x. (name_meaning t.names x).at) (λ x xs. refl) c.args.names.now c.loop-name.name-index no_name c.of.result
    c.loop-name.found.items c.push.new.self.items after c.loop-name-test.true c.in_ok-push.ensures.items c.of.ensures rest)

pub returns : goal.returns
returns c t = c.loop-name.invariant t c.loop-name.found.items (lists_end (λ xs. name_places (names_meaning t.names xs)) refl c.args.names.now c.loop-name.name-index c.loop-name.found.items c.loop-name-test.false)
