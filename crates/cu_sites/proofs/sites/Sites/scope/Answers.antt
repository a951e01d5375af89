use Rattle.std.proofs.Common.{◌≡◌, ◌-◌, arith, length, min, refl, sym}
use Rattle.std.proofs.lemmas.Bool.{ltb-false}
use Rattle.std.proofs.lemmas.Option.{slice_get_past, slice_get_read}
use Rattle.cu_sites.proofs.TopLemmas.{scoped_end, scoped_missing, scoped_more, scoped_start}
use Rattle.cu_sites.proofs.sites.Sites.scope.Goals as goal

pub loop-number-init : goal.loop-number-init
loop-number-init c t spot is = scoped_start t c.args.self.now.entries.items spot.scope c.args.at.scope c.new-found.result.items c.new-found.ensures.items is.scope

pub loop-number-preserved : goal.loop-number-preserved
loop-number-preserved c t spot is =
    let entries = c.args.self.now.entries.items in
    let number = c.loop-number.number in
    let first = c.in-Some.first.now in
    let found = rw c.deref.ensures.value at c.in-Some.ensures.lookup in
    let outer : c.min-number.result ≡ min first.around (number - 1) = c.min-number.ensures in
    scoped_more t entries spot.scope number c.min-number.result first c.loop-number.found.items c.push.new.self.items c.loop-number-test.true
    (slice_get_read entries (length entries) (number - 1) first refl found.3.0 found.1) c.in_ok-push.ensures.items outer (c.loop-number.invariant t spot is)

pub returns-in_default : goal.returns-in_default
returns-in_default c t spot is =
    let entries = c.args.self.now.entries.items in
    let number = c.loop-number.number in
    let found = rw c.deref.ensures.value at c.in_default.ensures.lookup in
    scoped_missing t entries spot.scope number c.loop-number.found.items c.loop-number-test.true
    (slice_get_past entries (number - 1) (ltb-false (number - 1) (length entries) (sym found.0))) (c.loop-number.invariant t spot is)

pub returns : goal.returns
returns c t spot is = scoped_end t c.args.self.now.entries.items spot.scope c.loop-number.number c.loop-number.found.items (omega (arith, c.loop-number-test.false)) (c.loop-number.invariant t spot is)
