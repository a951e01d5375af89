use Rattle.std.proofs.Common.{ap, arith}
use Rattle.cu_deftree.specs.LoweredProgram.{size}
use Rattle.cu_deftree.proofs.Nodes.{failure_written}
use Rattle.cu_deftree.proofs.trees.Lowerer.failure.Goals as goal

pub returns : goal.returns
returns c =
    let is = failure_written c.args.self.now.failed c.new.result c.new.ensures.items in
    let same = ap size is in
    (is, omega (arith, same, c.in_ok-spend.ensures))
