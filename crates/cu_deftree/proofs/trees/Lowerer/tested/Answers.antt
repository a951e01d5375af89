use Rattle.cu_kernel.specs.Heads.{heads_program}
use Rattle.cu_deftree.proofs.Nodes.{literal_written}
use Rattle.cu_deftree.proofs.trees.Lowerer.tested.Goals as goal

pub returns : goal.returns
unfolding heads_program
returns c =
    literal_written c.args.self.now.equal c.args.variable c.args.literal c.args.self.now.heads.now.special.now c.in_ok-test.test c.push-2.new.self
    c.new-branches.result.items c.push.new.self.items c.new.result c.new-2.result c.args.same c.args.other c.new-branches.ensures.items
    c.in_ok-push.ensures.items c.in_ok-push-2.ensures.items c.new.ensures.items c.new-2.ensures.items c.in_ok-test.ensures
