use Rattle.cu_flattext.specs.Inside.LineTasks.{all_left}
use Rattle.cu_flattext.specs.Text.{lowered, text_of_module}
use Rattle.cu_flattext.proofs.PrintingLemmas.{prefix_of_same}
use Rattle.std.specs.Prelude.{◌++◌}
use Rattle.cu_flattext.proofs.printing.print.Goals as goal

pub returns-in-Ok-clause-prefix : goal.returns-in-Ok-clause-prefix
returns-in-Ok-clause-prefix g c =
    let begun = c.in-Ok.begun in
    prefix_of_same c.finish.result (g.S.Sink.written c.args.sink.now) (g.S.Sink.written c.finish.new.sink)
    (begun.page.text.items ++ all_left begun.writer)
    (text_of_module (lowered c.args.names.now c.args.kernel.now c.args.interface.now c.args.program.now) c.args.name)
    c.finish.ensures.prefix c.in-Ok.ensures
