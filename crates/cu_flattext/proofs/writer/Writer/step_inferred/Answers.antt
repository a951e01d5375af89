use Rattle.cu_flattext.specs.Inside.LineTasks.{lines_left}
use Rattle.cu_flattext.proofs.TaskLemmas.{inferred_popped}
use Rattle.cu_flattext.proofs.writer.Writer.step_inferred.Goals as goal

pub returns-clause-writes : goal.returns-clause-writes
returns-clause-writes c =
    let self = c.args.self.now in
    inferred_popped self.expressions self.types self.inferred c.pop.new.self.items c.step.new.self c.in-Some.task c.args.page.now.text.items
    c.step.new.page.text.items (lines_left self.lines) c.requires.expressions c.requires.types c.in-Some.ensures.items c.in_ok-step.ensures
