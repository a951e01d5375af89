use Rattle.std.proofs.lemmas.List.{append-nil}
use Rattle.std.proofs.lemmas.Result.{on_err_weaker}
use Rattle.cu_machine.specs.Listing.{Answered, Waiting}
use Rattle.cu_step.specs.Outcome.{reading_of}
use Rattle.cu_search.specs.Stands.{notation_of}
use Rattle.cu_search.proofs.OneOutcome.{round_of-Answer, round_of-Fails, round_of-Go, round_of-Stops, round_of-Waits}
use Rattle.cu_search.proofs.RoundLemmas.{one_line_prefix}
use Rattle.cu_search.proofs.WrittenLemmas.{Adds-nothing}
use Rattle.cu_search.proofs.outcomes.list_outcome.Goals as goal

pub returns-in-On-clause-whole : goal.returns-in-On-clause-whole
returns-in-On-clause-whole g c = rw (c.in-On.is, round_of-Go) (Adds-nothing (g.K.Sink.written c.args.sink.now))

pub returns-in-Go-clause-whole : goal.returns-in-Go-clause-whole
returns-in-Go-clause-whole g c = rw (c.in-Go.is, round_of-Go) (Adds-nothing (g.K.Sink.written c.args.sink.now))

pub returns-in-Answer-clause-whole : goal.returns-in-Answer-clause-whole
returns-in-Answer-clause-whole g c = rw (c.in-Answer.is, round_of-Answer, append-nil) c.list_answer.ensures.whole

pub returns-in-Answer-clause-prefix : goal.returns-in-Answer-clause-prefix
returns-in-Answer-clause-prefix g c =
    let written = g.K.Sink.written in
    rw (c.in-Answer.is, round_of-Answer)
    (on_err_weaker c.list_answer.result
    (one_line_prefix (notation_of c.args.turn.now.wording) (written c.args.sink.now) (written c.list_answer.new.sink) (Answered c.args.turn.now.round (reading_of c.in-Answer.reading)))
    c.list_answer.ensures.prefix)

pub returns-in-Fail-clause-whole : goal.returns-in-Fail-clause-whole
returns-in-Fail-clause-whole g c = rw (c.in-Fail.is, round_of-Fails) (Adds-nothing (g.K.Sink.written c.args.sink.now))

pub returns-in-Wait-clause-whole : goal.returns-in-Wait-clause-whole
returns-in-Wait-clause-whole g c = rw (c.in-Wait.is, round_of-Waits, append-nil, ← c.as_slice.ensures.value) c.list_wait.ensures.whole

pub returns-in-Wait-clause-prefix : goal.returns-in-Wait-clause-prefix
returns-in-Wait-clause-prefix g c =
    let written = g.K.Sink.written in
    rw (c.in-Wait.is, round_of-Waits, ← c.as_slice.ensures.value)
    (on_err_weaker c.list_wait.result
    (one_line_prefix (notation_of c.args.turn.now.wording) (written c.args.sink.now) (written c.list_wait.new.sink) (Waiting c.args.turn.now.round c.as_slice.result.now))
    c.list_wait.ensures.prefix)

pub returns-in-Stop-clause-whole : goal.returns-in-Stop-clause-whole
returns-in-Stop-clause-whole g c = rw (c.in-Stop.is, round_of-Stops) (Adds-nothing (g.K.Sink.written c.args.sink.now))

pub returns-in-Inner-clause-whole : goal.returns-in-Inner-clause-whole
returns-in-Inner-clause-whole g c = rw (c.in-Inner.is, round_of-Go) (Adds-nothing (g.K.Sink.written c.args.sink.now))
