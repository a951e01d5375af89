use Rattle.std.proofs.Common.{arith, ◌∙◌, sym, ◌<◌, ◌≤◌, length, map}
use Rattle.cu_machine.specs.Listing.{round_of}
use Rattle.cu_step.specs.Outcome.{next_of}
use Rattle.cu_search.proofs.TotalsLemmas.{all_counted, count_ends, count_goes_on}
use Rattle.cu_search.proofs.counting.count_outcomes.Goals as goal

pub returns-then-is_some : goal.returns-then-is_some
returns-then-is_some g c =
    let content = g.S.Store.content in
    let turn = c.args.turn.now in
    let below : c.loop-outcome.outcome-index < length c.args.outcomes.now = omega arith in
    let counted = count_ends (next_of content) turn.round turn.limit c.args.totals.now c.loop-outcome.totals c.count_outcome.new.totals
    (round_of turn.round turn.limit c.args.tally.now (map (next_of content) c.args.outcomes.now))
    c.loop-outcome.tally c.count_outcome.new.tally c.args.outcomes.now c.loop-outcome.outcome-index c.outcome-item.result c.in_ok-end.end
    below c.outcome-item.is c.loop-outcome.invariant c.in_ok-end.ensures.totals c.in_ok-end.ensures.tally c.in_ok-end.ensures.end (sym c.is_some.ensures ∙ c.if-is_some.true)
    in record { end = counted.end_is; tally = counted.tally_is; totals = counted.counted }

pub loop-outcome-preserved : goal.loop-outcome-preserved
loop-outcome-preserved g c =
    let content = g.S.Store.content in
    let turn = c.args.turn.now in
    let below : c.loop-outcome.outcome-index < length c.args.outcomes.now = omega arith in
    count_goes_on (next_of content) turn.round turn.limit c.args.totals.now c.loop-outcome.totals c.count_outcome.new.totals
    (round_of turn.round turn.limit c.args.tally.now (map (next_of content) c.args.outcomes.now))
    c.loop-outcome.tally c.count_outcome.new.tally c.args.outcomes.now c.loop-outcome.outcome-index c.outcome-item.result c.in_ok-end.end
    below c.outcome-item.is c.loop-outcome.invariant c.in_ok-end.ensures.totals c.in_ok-end.ensures.tally c.in_ok-end.ensures.end (sym c.is_some.ensures ∙ c.if-is_some.false)

pub returns : goal.returns
returns g c =
    let content = g.S.Store.content in
    let turn = c.args.turn.now in
    let past : length c.args.outcomes.now ≤ c.loop-outcome.outcome-index = omega arith in
    let counted = all_counted (next_of content) turn.round turn.limit c.args.totals.now c.loop-outcome.totals
    (round_of turn.round turn.limit c.args.tally.now (map (next_of content) c.args.outcomes.now))
    c.loop-outcome.tally c.args.outcomes.now c.loop-outcome.outcome-index past c.loop-outcome.invariant
    in record { end = counted.end_is; tally = counted.tally_is; totals = counted.counted }
