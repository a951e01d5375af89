use Rattle.std.proofs.Common.{◌≡◌, ◌++◌}
use Rattle.cu_flattext.specs.Inside.LineTasks.{all_left}
use Rattle.cu_flattext.specs.Inside.Progress.{Continues}
use Rattle.cu_flattext.proofs.writer.write_all.Given as goal

-- what went out, the piece and what is left are the whole text
abbrev pub invariant-tasks : goal.invariant-tasks
invariant-tasks g l =
    let written = g.S.Sink.written in
    record {
      text : Continues (written l.fn.sink) (written l.sink) (l.fn.page.text.items ++ all_left l.fn.writer) (l.page.text.items ++ all_left l.writer);
      count : g.S.Sink.fault_count l.sink ≡ g.S.Sink.fault_count l.fn.sink;
    }
