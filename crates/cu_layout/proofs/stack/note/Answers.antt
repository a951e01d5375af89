use Rattle.cu_layout.proofs.StackLemmas.{stack_noting-block, stack_noting-brace, stack_noting-none}
use Rattle.cu_layout.proofs.stack.note.Goals as goal

pub returns-in-Block : goal.returns-in-Block
returns-in-Block c =
    stack_noting-block c.args.form c.loop-index.stack c.args.stack.now c.loop-index.index c.in-Block.column c.in-Block.begun c.with.result _ c.loop-index-test.true c.loop-index.auto.index c.in-Block.is c.loop-index.invariant.same c.with.ensures c.loop-index.invariant.left

pub returns-in-Brace : goal.returns-in-Brace
returns-in-Brace c =
    stack_noting-brace c.args.form c.loop-index.stack c.args.stack.now c.loop-index.index _ c.loop-index-test.true c.loop-index.auto.index c.in-Brace.is c.loop-index.invariant.same c.loop-index.invariant.left

pub returns : goal.returns
returns c = stack_noting-none c.args.form c.loop-index.stack c.args.stack.now c.loop-index.index c.loop-index-test.false c.loop-index.invariant.same c.loop-index.invariant.left
