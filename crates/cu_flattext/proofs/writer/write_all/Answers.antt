use Rattle.std.proofs.Common.{◌++◌, ◌∙◌}
use Rattle.cu_flattext.specs.Inside.LineTasks.{all_left}
use Rattle.cu_flattext.proofs.WrittenLemmas.{OnErr-always, OnErr-map, adds_part, breaks_off, prefix_part, writes_on}
use Rattle.cu_flattext.proofs.writer.write_all.Goals as goal

pub returns-in_err-step-clause-prefix : goal.returns-in_err-step-clause-prefix
returns-in_err-step-clause-prefix g c =
    let written = g.S.Sink.written in
    OnErr-always c.from_residual.result
    (breaks_off (written c.args.sink.now) (written c.tasks.sink) (c.args.page.now.text.items ++ all_left c.args.writer.now)
    (c.tasks.page.text.items ++ all_left c.tasks.writer) c.tasks.invariant.text)

pub returns-then-not-branch-clause-prefix : goal.returns-then-not-branch-clause-prefix
returns-then-not-branch-clause-prefix g c =
    let written = g.S.Sink.written in
    let whole = c.args.page.now.text.items ++ all_left c.args.writer.now in
    let left = all_left c.step.new.self in
    let begun = writes_on (written c.args.sink.now) (written c.tasks.sink) whole c.tasks.page.text.items (all_left c.tasks.writer)
    c.step.new.page.text.items left c.tasks.invariant.text c.in_ok-step.ensures.writes in
    OnErr-map c.flush.result
    (prefix_part (written c.args.sink.now) (written c.tasks.sink) (written c.flush.new.sink) whole c.step.new.page.text.items left begun)
    c.flush.ensures.prefix

pub returns-in_err-flush_long-clause-prefix : goal.returns-in_err-flush_long-clause-prefix
returns-in_err-flush_long-clause-prefix g c =
    let written = g.S.Sink.written in
    let whole = c.args.page.now.text.items ++ all_left c.args.writer.now in
    let left = all_left c.step.new.self in
    let begun = writes_on (written c.args.sink.now) (written c.tasks.sink) whole c.tasks.page.text.items (all_left c.tasks.writer)
    c.step.new.page.text.items left c.tasks.invariant.text c.in_ok-step.ensures.writes in
    OnErr-always c.from_residual-in_err-flush_long.result
    (prefix_part (written c.args.sink.now) (written c.tasks.sink) (written c.flush_long.new.sink) whole c.step.new.page.text.items left begun
    c.in_err-flush_long.ensures.prefix)

pub tasks-preserved : goal.tasks-preserved
tasks-preserved g c =
    let written = g.S.Sink.written in
    let whole = c.args.page.now.text.items ++ all_left c.args.writer.now in
    let left = all_left c.step.new.self in
    let begun = writes_on (written c.args.sink.now) (written c.tasks.sink) whole c.tasks.page.text.items (all_left c.tasks.writer)
    c.step.new.page.text.items left c.tasks.invariant.text c.in_ok-step.ensures.writes in
    record {
      text = adds_part (written c.args.sink.now) (written c.tasks.sink) (written c.flush_long.new.sink) whole
          c.step.new.page.text.items c.flush_long.new.self.text.items left begun c.in_ok-flush_long.ensures.whole;
      count = c.in_ok-flush_long.ensures.cause ∙ c.tasks.invariant.count;
    }

pub returns-clause-prefix : goal.returns-clause-prefix
returns-clause-prefix g c =
    let written = g.S.Sink.written in
    breaks_off (written c.args.sink.now) (written c.tasks.sink) (c.args.page.now.text.items ++ all_left c.args.writer.now)
    (c.tasks.page.text.items ++ all_left c.tasks.writer) c.tasks.invariant.text
