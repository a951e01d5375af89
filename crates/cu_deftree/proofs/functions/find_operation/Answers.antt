use Rattle.std.proofs.Common.{length, refl}
use Rattle.std.proofs.lemmas.Option.{slice_get_read}
use Rattle.cu_deftree.proofs.LoweredFunctions.{is_the_operation, no_operation, not_before_next}
use Rattle.cu_deftree.proofs.functions.find_operation.Goals as goal

pub returns-then-is_operation : goal.returns-then-is_operation
returns-then-is_operation c = λ program is.
    let fs = c.args.functions.now in
    is_the_operation program fs c.args.operation c.loop-index.index c.index-functions-index.result is
    (slice_get_read fs (length fs) c.loop-index.index c.index-functions-index.result refl c.loop-index-test.true c.index-functions-index.is)
    (c.is_operation.ensures.holds c.if-is_operation.true) c.loop-index.invariant

pub loop-index-preserved : goal.loop-index-preserved
loop-index-preserved c =
    let fs = c.args.functions.now in
    not_before_next fs c.args.operation c.loop-index.index c.index-functions-index.result
    (slice_get_read fs (length fs) c.loop-index.index c.index-functions-index.result refl c.loop-index-test.true c.index-functions-index.is)
    (c.is_operation.ensures.fails c.if-is_operation.false) c.loop-index.invariant

pub returns : goal.returns
returns c = λ program is.
    no_operation program c.args.functions.now c.args.operation c.loop-index.index is c.loop-index-test.false c.loop-index.invariant
