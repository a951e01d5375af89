use Rattle.cu_types.proofs.KeepingLemmas.{joined_end, joined_start}
use Rattle.cu_types.proofs.keeping.join.Goals as goal
use Rattle.cu_types.specs.Inside.Keeping.{joined}

pub loop-number-init : goal.loop-number-init
loop-number-init c = joined_start c.args.seen.now.keys c.args.numbers.now

pub returns : goal.returns
returns c =
    joined_end c.loop-number.seen.keys c.args.numbers.now c.loop-number.number-index (joined c.args.seen.now.keys c.args.numbers.now)
    c.loop-number-test.false c.loop-number.invariant
