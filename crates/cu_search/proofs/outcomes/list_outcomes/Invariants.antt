use Rattle.std.proofs.Common.{◌≡◌, map}
use Rattle.cu_machine.specs.Listing.{round_of}
use Rattle.cu_step.specs.Outcome.{next_of}
use Rattle.cu_search.specs.Stands.{notation_of}
use Rattle.cu_search.proofs.RoundLemmas.{RoundLeft, rest_round}
use Rattle.cu_search.proofs.outcomes.list_outcomes.Given as goal

-- the lines so far were written, and the others are those of the outcomes that are left
abbrev pub invariant-loop-outcome : goal.invariant-loop-outcome
invariant-loop-outcome g l =
    let content = g.S.Store.content in
    let written = g.K.Sink.written in
    let notation = notation_of l.turn.wording in
    record {
      left : RoundLeft notation (written l.fn.sink) (written l.sink)
          (round_of l.turn.round l.turn.limit l.fn.tally (map (next_of content) l.outcomes))
          (rest_round notation (next_of content) l.turn.round l.turn.limit l.tally l.outcomes l.outcome-index);
      count : g.K.Sink.fault_count l.sink ≡ g.K.Sink.fault_count l.fn.sink;
    }
