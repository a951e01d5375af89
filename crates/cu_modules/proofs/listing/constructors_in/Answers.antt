use Rattle.std.proofs.Common.{◌∙◌, get_or, sym}
use Rattle.cu_entities.specs.EntityMeaning.{entity_meaning}
use Rattle.cu_syntax.specs.Items.{constructors_meaning}
use Rattle.cu_modules.proofs.ListingLemmas.{brought_by, comes_of, every_chosen, no_bound, not_chosen, one_chosen}
use Rattle.cu_modules.proofs.listing.constructors_in.Goals as goal

pub bound-preserved-then-not-is_brought : goal.bound-preserved-then-not-is_brought
bound-preserved-then-not-is_brought c = λ owner names differ known known_of own.
    let i = c.bound.one-index in
    let which = c.args.constructors.now in
    not_chosen names (comes_of (constructors_meaning names which) (entity_meaning names c.args.of)) c.args.bound.now i no_bound c.bound.found.items c.bound-test.true
    (sym (brought_by owner names which c.args.of (get_or c.args.bound.now i no_bound).entity c.is_brought.result c.is_brought.ensures differ own known_of (known i no_bound c.bound-test.true).entity) ∙ c.if-not-is_brought.true)
    (c.bound.invariant owner names differ known known_of own)

pub bound-preserved : goal.bound-preserved
bound-preserved c = λ owner names differ known known_of own.
    let i = c.bound.one-index in
    let which = c.args.constructors.now in
    one_chosen names (comes_of (constructors_meaning names which) (entity_meaning names c.args.of)) c.args.bound.now i no_bound c.bound.found.items c.push.new.self.items c.bound-test.true known
    (sym (brought_by owner names which c.args.of (get_or c.args.bound.now i no_bound).entity c.is_brought.result c.is_brought.ensures differ own known_of (known i no_bound c.bound-test.true).entity) ∙ c.if-not-is_brought.false)
    c.in_ok-push.ensures.items (c.bound.invariant owner names differ known known_of own)

pub returns : goal.returns
returns c = λ owner names differ known known_of own.
    every_chosen names (comes_of (constructors_meaning names c.args.constructors.now) (entity_meaning names c.args.of)) c.args.bound.now c.bound.one-index c.bound.found.items c.bound-test.false
    (c.bound.invariant owner names differ known known_of own)
