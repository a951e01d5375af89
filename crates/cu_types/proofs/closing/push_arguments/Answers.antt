use Rattle.std.proofs.Common.{◌++◌, arith}
use Rattle.cu_types.proofs.Joins.{paired_all}
use Rattle.cu_types.proofs.closing.push_arguments.Goals as goal
use Rattle.cu_types.specs.Inside.Closing.{paired}

pub returns : goal.returns
returns c =
    paired_all c.args.left.now c.args.right.now c.loop-place.place c.loop-place.pending.items
    (c.args.pending.now.items ++ paired c.args.left.now c.args.right.now) (omega arith) c.loop-place.invariant
