use Rattle.std.proofs.Common.{arith, length}
use Rattle.cu_deftree.proofs.NameLaws.{all_names, either_ends}
use Rattle.cu_deftree.proofs.patterns.push_all_names.Goals as goal

pub returns : goal.returns
returns c =
    all_names c.args.positions.now c.args.patterns.now c.loop-i.i c.loop-i.names.items _
    (either_ends (length c.args.positions.now) (length c.args.patterns.now) c.loop-i.i (omega (arith, c.min-count.ensures))) c.loop-i.invariant
