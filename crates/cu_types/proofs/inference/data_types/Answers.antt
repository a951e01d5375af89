use Rattle.cu_types.proofs.InterfaceLemmas.{data_goal, functional_goal}
use Rattle.cu_types.proofs.inference.data_types.Goals as goal

pub returns-then-functional : goal.returns-then-functional
returns-then-functional c = λ typed.
    functional_goal c.args.program.now c.args.types.items c.as_slice.result.now c.in_ok-functional.functional c.in_ok-functional.ensures
    c.as_slice.ensures.value c.if-functional.true typed

pub returns : goal.returns
returns c = λ typed.
    data_goal c.args.program.now c.new.result c.args.types.items c.as_slice.result.now c.in_ok-functional.functional c.in_ok-functional.ensures
    c.as_slice.ensures.value c.if-functional.false c.new.ensures typed
