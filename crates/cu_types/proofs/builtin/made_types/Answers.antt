use Rattle.std.proofs.Common.{map, refl}
use Rattle.cu_kernel.specs.KernelOf.{type_meaning}
use Rattle.cu_types.proofs.BuiltInLemmas.{made_end, made_start, made_step}
use Rattle.cu_types.proofs.builtin.made_types.Goals as goal
use Rattle.cu_types.specs.Inside.Building.{made_types}
use Rattle.cu_types.specs.Table.{at}

pub loop-place-init : goal.loop-place-init
loop-place-init c = made_start (at c.args.synonyms.now) c.args.types.now c.new-found.result.items c.new-found.ensures.items

pub loop-place-preserved : goal.loop-place-preserved
loop-place-preserved c =
    made_step (at c.args.synonyms.now) c.args.types.now c.loop-place.place c.index-types-place.result c.loop-place.found.items
    c.push_constructors.new.found.items c.index-types-place.result.constructors.items (made_types (at c.args.synonyms.now) 0 (map type_meaning c.args.types.now))
    c.loop-place-test.true c.index-types-place.is refl c.in_ok-push_constructors.ensures c.loop-place.invariant

pub returns : goal.returns
returns c =
    made_end (at c.args.synonyms.now) c.args.types.now c.loop-place.place c.loop-place.found.items
    (made_types (at c.args.synonyms.now) 0 (map type_meaning c.args.types.now)) c.loop-place-test.false c.loop-place.invariant
