use Rattle.cu_entities.specs.EntityMeaning.{entities_meaning}
use Rattle.std.proofs.Common.{take}
use Rattle.cu_modules.proofs.BindingLemmas.{no_entity}
use Rattle.cu_modules.proofs.ListingLemmas.{once_more, once_told}
use Rattle.cu_modules.proofs.listing.each_once.Goals as goal

pub each-preserved : goal.each-preserved
each-preserved c = λ names differ known.
    let es = c.args.entities.now in
    let i = c.each.entity-index in
    once_more names es i no_entity c.add.new.self c.each-test.true
    (c.in_ok-add.ensures names (entities_meaning names (take i es)) differ (known i no_entity c.each-test.true) (c.each.invariant names differ known))

pub returns : goal.returns
returns c = λ names meant differ are.
    once_told names meant c.args.entities.now c.each.entity-index c.each.set c.entities.result.now c.from_slice.result c.each-test.false are (c.each.invariant names differ are.known)
    (λ entities is. c.entities.ensures.entities names entities is) (λ entities is. c.entities.ensures.known names entities is) c.from_slice.ensures.items

pub each-init : goal.each-init
each-init c = λ names differ known. c.new-set.ensures names
