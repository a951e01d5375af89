use Rattle.cu_kernel.proofs.ConstructorLemmas.{found_in_type, not_in_type}
use Rattle.cu_kernel.proofs.constructors.constructor_at.Goals as goal

pub returns-then-left-constructors : goal.returns-then-left-constructors
returns-then-left-constructors c =
    found_in_type c.args.types.now c.loop-place.place c.index-types-place.result c.loop-place-test.true c.index-types-place.is
    c.as_slice-constructors.result.now c.as_slice-constructors.ensures.value c.loop-place.left c.index-constructors-left.result c.if-left-constructors.true
    c.index-constructors-left.is _ c.loop-place.invariant

pub loop-place-preserved : goal.loop-place-preserved
loop-place-preserved c =
    not_in_type c.args.types.now c.loop-place.place c.index-types-place.result c.loop-place-test.true c.index-types-place.is
    c.as_slice-constructors.result.now c.as_slice-constructors.ensures.value c.loop-place.left c.if-left-constructors.false _ c.loop-place.invariant
