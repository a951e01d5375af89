use Rattle.std.proofs.Common.{arith, ◌∙◌, sym, ◌<◌, ◌≤◌, length, map}
use Rattle.cu_machine.specs.Listing.{round_of}
use Rattle.cu_step.specs.Outcome.{next_of}
use Rattle.cu_search.specs.Stands.{notation_of}
use Rattle.cu_search.proofs.RoundLemmas.{outcome_ends, outcome_prefix, outcome_goes_on, outcomes_listed}
use Rattle.cu_search.proofs.WrittenLemmas.{OnErr-always}
use Rattle.cu_search.proofs.outcomes.list_outcomes.Goals as goal

pub returns-in_err-end-clause-prefix : goal.returns-in_err-end-clause-prefix
returns-in_err-end-clause-prefix g c =
    let content = g.S.Store.content in
    let written = g.K.Sink.written in
    let turn = c.args.turn.now in
    let below : c.loop-outcome.outcome-index < length c.args.outcomes.now = omega arith in
    OnErr-always c.from_residual.result
    (outcome_prefix (notation_of turn.wording) (next_of content) turn.round turn.limit (written c.args.sink.now) (written c.loop-outcome.sink) (written c.list_outcome.new.sink)
    (round_of turn.round turn.limit c.args.tally.now (map (next_of content) c.args.outcomes.now))
    c.loop-outcome.tally c.args.outcomes.now c.loop-outcome.outcome-index c.outcome-item.result below c.outcome-item.is c.loop-outcome.invariant.left c.in_err-end.ensures.prefix)

pub returns-then-is_some : goal.returns-then-is_some
returns-then-is_some g c =
    let content = g.S.Store.content in
    let written = g.K.Sink.written in
    let turn = c.args.turn.now in
    let below : c.loop-outcome.outcome-index < length c.args.outcomes.now = omega arith in
    let listed = outcome_ends (notation_of turn.wording) (next_of content) turn.round turn.limit (written c.args.sink.now) (written c.loop-outcome.sink) (written c.list_outcome.new.sink)
    (round_of turn.round turn.limit c.args.tally.now (map (next_of content) c.args.outcomes.now))
    c.loop-outcome.tally c.list_outcome.new.tally c.args.outcomes.now c.loop-outcome.outcome-index c.outcome-item.result c.in_ok-end.end
    below c.outcome-item.is c.loop-outcome.invariant.left c.in_ok-end.ensures.whole c.in_ok-end.ensures.tally c.in_ok-end.ensures.end (sym c.is_some.ensures ∙ c.if-is_some.true)
    in record { end = listed.end_is; tally = listed.tally_is; whole = listed.written; prefix = tt; cause = c.in_ok-end.ensures.cause ∙ c.loop-outcome.invariant.count }

pub loop-outcome-preserved : goal.loop-outcome-preserved
loop-outcome-preserved g c =
    let content = g.S.Store.content in
    let written = g.K.Sink.written in
    let turn = c.args.turn.now in
    let below : c.loop-outcome.outcome-index < length c.args.outcomes.now = omega arith in
    record {
      left = outcome_goes_on (notation_of turn.wording) (next_of content) turn.round turn.limit (written c.args.sink.now) (written c.loop-outcome.sink) (written c.list_outcome.new.sink)
          (round_of turn.round turn.limit c.args.tally.now (map (next_of content) c.args.outcomes.now))
          c.loop-outcome.tally c.list_outcome.new.tally c.args.outcomes.now c.loop-outcome.outcome-index c.outcome-item.result c.in_ok-end.end
          below c.outcome-item.is c.loop-outcome.invariant.left c.in_ok-end.ensures.whole c.in_ok-end.ensures.tally c.in_ok-end.ensures.end (sym c.is_some.ensures ∙ c.if-is_some.false);
      count = c.in_ok-end.ensures.cause ∙ c.loop-outcome.invariant.count;
    }

pub returns : goal.returns
returns g c =
    let content = g.S.Store.content in
    let written = g.K.Sink.written in
    let turn = c.args.turn.now in
    let past : length c.args.outcomes.now ≤ c.loop-outcome.outcome-index = omega arith in
    let listed = outcomes_listed (notation_of turn.wording) (next_of content) turn.round turn.limit (written c.args.sink.now) (written c.loop-outcome.sink)
    (round_of turn.round turn.limit c.args.tally.now (map (next_of content) c.args.outcomes.now))
    c.loop-outcome.tally c.args.outcomes.now c.loop-outcome.outcome-index past c.loop-outcome.invariant.left
    in record { end = listed.end_is; tally = listed.tally_is; whole = listed.written; prefix = tt; cause = c.loop-outcome.invariant.count }
