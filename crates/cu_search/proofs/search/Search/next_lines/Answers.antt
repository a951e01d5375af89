use Rattle.std.proofs.Common.{Ok, ◌∙◌, subst, sym}
use Rattle.cu_search.specs.declared.fault.SearchFault.{SearchFault}
use Rattle.cu_search.specs.declared.search.Round.TheVariants.{Ended, Going}
use Rattle.cu_search.specs.Rounds.{Leaves, Writes}
use Rattle.cu_search.specs.Stands.{standing_of}
use Rattle.cu_search.proofs.NextLemmas.{next_ended, next_going, next_later, no_lines, some_lines}
use Rattle.cu_search.proofs.search.Search.next_lines.Goals as goal

pub returns-in-Ended-clause-next : goal.returns-in-Ended-clause-next
returns-in-Ended-clause-next g c =
    let written = g.K.Sink.written in
    let first = standing_of g.S.Store.content c.args.self.now in
    let s = standing_of g.S.Store.content c.loop-end.self in
    let after = standing_of g.S.Store.content c.round.new.self in
    let went : Leaves {E = SearchFault} (Ok (Ended c.in-Ended.end)) s after =
    subst (λ round. Leaves {E = SearchFault} (Ok round) s after) c.in-Ended.is c.in_ok-end.ensures.standing in
    let wrote : Writes (Ok (Ended c.in-Ended.end)) s (written c.loop-end.sink) (written c.round.new.sink) =
    subst (λ round. Writes (Ok round) s (written c.loop-end.sink) (written c.round.new.sink)) c.in-Ended.is c.in_ok-end.ensures.written in
    next_ended (written c.args.sink.now) (written c.loop-end.sink) (written c.round.new.sink) first s after c.in-Ended.end c.loop-end.invariant.left
    c.loop-end.invariant.going went wrote

pub returns-then-lines-listed-clause-next : goal.returns-then-lines-listed-clause-next
returns-then-lines-listed-clause-next g c =
    let written = g.K.Sink.written in
    let first = standing_of g.S.Store.content c.args.self.now in
    let s = standing_of g.S.Store.content c.loop-end.self in
    let after = standing_of g.S.Store.content c.round.new.self in
    let went : Leaves {E = SearchFault} (Ok Going) s after = subst (λ round. Leaves {E = SearchFault} (Ok round) s after) c.in_default.is c.in_ok-end.ensures.standing in
    let wrote : Writes (Ok Going) s (written c.loop-end.sink) (written c.round.new.sink) =
    subst (λ round. Writes (Ok round) s (written c.loop-end.sink) (written c.round.new.sink)) c.in_default.is c.in_ok-end.ensures.written in
    next_going (written c.args.sink.now) (written c.loop-end.sink) (written c.round.new.sink) first s after c.loop-end.invariant.left
    went.0 went.1 went.2 wrote
    (some_lines s after went.1 (λ same. c.if-lines-listed.true (c.lines.ensures ∙ same ∙ sym c.lines-listed.ensures)))

pub loop-end-preserved : goal.loop-end-preserved
loop-end-preserved g c =
    let written = g.K.Sink.written in
    let first = standing_of g.S.Store.content c.args.self.now in
    let s = standing_of g.S.Store.content c.loop-end.self in
    let after = standing_of g.S.Store.content c.round.new.self in
    let went : Leaves {E = SearchFault} (Ok Going) s after = subst (λ round. Leaves {E = SearchFault} (Ok round) s after) c.in_default.is c.in_ok-end.ensures.standing in
    let wrote : Writes (Ok Going) s (written c.loop-end.sink) (written c.round.new.sink) =
    subst (λ round. Writes (Ok round) s (written c.loop-end.sink) (written c.round.new.sink)) c.in_default.is c.in_ok-end.ensures.written in
    record {
      left = next_later (written c.args.sink.now) (written c.loop-end.sink) (written c.round.new.sink) first s after c.loop-end.invariant.left
          went.0 went.1 went.3 wrote
          (no_lines s after went.1 (sym c.lines.ensures ∙ c.if-lines-listed.false ∙ c.lines-listed.ensures));
      going = went.2;
      count = c.in_ok-end.ensures.cause ∙ c.loop-end.invariant.count;
    }
