use Rattle.cu_kernel.specs.TypesOf.{types_of}
use Rattle.cu_flattext.specs.Inside.Circles.{is_known, some_left}
use Rattle.cu_flattext.specs.TypeTexts.{is_or_passes, some_synonym_in}
use Rattle.std.proofs.Common.{◌||◌}
use Rattle.cu_flattext.proofs.CircleLemmas.{none_to_push, pushed_type}
use Rattle.cu_flattext.proofs.circles.push_types.Goals as goal

pub loop-t-preserved : goal.loop-t-preserved
loop-t-preserved c =
    let test = is_or_passes c.args.goal (is_known c.args.known.now) in
    pushed_type test c.loop-t.left.items c.push.new.self.items _ c.args.types.now c.loop-t.t-index
    (some_left test c.args.left.now.items || some_synonym_in test (types_of c.args.types.now)) c.loop-t-test.true c.t-item.is c.in_ok-push.ensures.items
    c.loop-t.invariant

pub returns : goal.returns
returns c =
    let test = is_or_passes c.args.goal (is_known c.args.known.now) in
    none_to_push test c.loop-t.left.items c.args.types.now c.loop-t.t-index
    (some_left test c.args.left.now.items || some_synonym_in test (types_of c.args.types.now)) c.loop-t-test.false c.loop-t.invariant
