use Rattle.std.proofs.Common.{◌++◌, append-nil, subst, sym, take, take_all}
use Rattle.cu_sites.proofs.TableLemmas.{no_place, taken_more}
use Rattle.cu_sites.proofs.numbers.PlaceTable.add_all.Goals as goal
use Rattle.cu_sites.specs.Numbered.{IsPlaceTable}

pub loop-place-init : goal.loop-place-init
loop-place-init c = λ before has. subst (λ keys. IsPlaceTable keys c.args.self.now) (sym (append-nil before)) has

pub loop-place-preserved : goal.loop-place-preserved
loop-place-preserved c = λ before has.
    taken_more (λ keys. IsPlaceTable keys c.add.new.self) before c.args.places.now c.loop-place.place-index no_place c.loop-place-test.true
    (c.in_ok-add.ensures (before ++ take c.loop-place.place-index c.args.places.now) (c.loop-place.invariant before has))

pub returns : goal.returns
returns c = λ before has. subst (λ keys. IsPlaceTable (before ++ keys) c.loop-place.self) (take_all c.loop-place.place-index c.args.places.now c.loop-place-test.false) (c.loop-place.invariant before has)
