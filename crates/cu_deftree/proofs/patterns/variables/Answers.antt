use Rattle.cu_deftree.proofs.NameLaws.{all_variables_written, next_variable}
use Rattle.cu_deftree.proofs.patterns.variables.Goals as goal

pub loop-name-preserved : goal.loop-name-preserved
loop-name-preserved c =
    next_variable c.loop-name.all.items c.push.new.self.items c.args.names.now c.loop-name.name-index _ c.loop-name-test.true c.in_ok-push.ensures.items
    c.loop-name.invariant

pub returns : goal.returns
returns c = all_variables_written c.loop-name.all.items c.args.names.now c.loop-name.name-index _ c.loop-name-test.false c.loop-name.invariant
