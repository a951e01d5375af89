use Rattle.std.proofs.Common.{get_or, map, refl}
use Rattle.cu_translation.specs.declared.local_names.Binder.TheVariants as binder
use Rattle.cu_translation.specs.LocalNames.{Selected}
use Rattle.cu_translation.specs.Meaning.{position_meaning}
use Rattle.cu_locals.specs.Places.{positions_meaning}
use Rattle.cu_sites.proofs.CountLemmas.{counts_end, counts_pushed}
use Rattle.cu_sites.proofs.TableLemmas.{no_place}
use Rattle.cu_sites.proofs.binders.push_selected.Goals as goal

pub loop-place-init : goal.loop-place-init
loop-place-init c after rest = rest

pub loop-place-preserved : goal.loop-place-preserved
loop-place-preserved c after rest =
    let x = position_meaning c.args.x in
    c.loop-place.invariant after
    (counts_pushed (λ ps. map (Selected x) (positions_meaning ps)) (λ p. Selected x (position_meaning p)) (λ p ps. refl) c.args.places.now c.loop-place.place-index no_place
    (binder.Selected c.args.x (get_or c.args.places.now c.loop-place.place-index no_place)) c.loop-place.found.items c.push.new.self.items after c.loop-place-test.true c.in_ok-push.ensures.items refl rest)

pub returns : goal.returns
returns c =
    c.loop-place.invariant c.loop-place.found.items
    (counts_end (λ ps. map (Selected (position_meaning c.args.x)) (positions_meaning ps)) refl c.args.places.now c.loop-place.place-index c.loop-place.found.items c.loop-place-test.false)
