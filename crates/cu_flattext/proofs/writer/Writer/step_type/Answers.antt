use Rattle.std.proofs.Common.{◌++◌}
use Rattle.cu_flattext.specs.Inside.InferredTasks.{inferred_left}
use Rattle.cu_flattext.specs.Inside.LineTasks.{lines_left}
use Rattle.cu_flattext.proofs.TaskLemmas.{types_popped}
use Rattle.cu_flattext.proofs.writer.Writer.step_type.Goals as goal

pub returns-clause-writes : goal.returns-clause-writes
returns-clause-writes c =
    let self = c.args.self.now in
    types_popped self.expressions self.types c.pop.new.self.items c.step.new.self c.in-Some.task c.args.page.now.text.items
    c.step.new.page.text.items (inferred_left self.inferred ++ lines_left self.lines) c.requires c.in-Some.ensures.items c.in_ok-step.ensures
