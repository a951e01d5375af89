use Rattle.std.proofs.Common.{Ok, ◌∙◌, subst}
use Rattle.cu_search.specs.declared.fault.SearchFault.{SearchFault}
use Rattle.cu_search.specs.declared.search.Round.TheVariants.{Going}
use Rattle.cu_search.specs.Lines.{listing_bytes}
use Rattle.cu_search.specs.Rounds.{Leaves, Writes}
use Rattle.cu_search.specs.Standing.{left_of}
use Rattle.cu_search.specs.Stands.{standing_of}
use Rattle.cu_search.proofs.ListingLemmas.{listing-goes_on}
use Rattle.cu_search.proofs.WrittenLemmas.{OnErr-always, ends, prefix}
use Rattle.cu_search.proofs.search.Search.list.Goals as goal

pub returns-in_err-end-clause-prefix : goal.returns-in_err-end-clause-prefix
returns-in_err-end-clause-prefix g c =
    let written = g.K.Sink.written in
    let first = standing_of g.S.Store.content c.args.self.now in
    let s = standing_of g.S.Store.content c.loop-end.self in
    OnErr-always c.from_residual.result
    (prefix (written c.args.sink.now) (written c.loop-end.sink) (written c.round.new.sink) (listing_bytes first.notation (left_of first)) (listing_bytes s.notation (left_of s))
    c.loop-end.invariant.left.written c.in_err-end.ensures.written)

pub loop-end-preserved : goal.loop-end-preserved
loop-end-preserved g c =
    let written = g.K.Sink.written in
    let first = standing_of g.S.Store.content c.args.self.now in
    let s = standing_of g.S.Store.content c.loop-end.self in
    let after = standing_of g.S.Store.content c.round.new.self in
    let went : Leaves {E = SearchFault} (Ok Going) s after = subst (λ round. Leaves {E = SearchFault} (Ok round) s after) c.in_default.is c.in_ok-end.ensures.standing in
    let wrote : Writes (Ok Going) s (written c.loop-end.sink) (written c.round.new.sink) =
    subst (λ round. Writes (Ok round) s (written c.loop-end.sink) (written c.round.new.sink)) c.in_default.is c.in_ok-end.ensures.written in
    record {
      left = listing-goes_on first s after (written c.args.sink.now) (written c.loop-end.sink) (written c.round.new.sink) went.1 went.3 c.loop-end.invariant.left wrote;
      going = went.2;
      count = c.in_ok-end.ensures.cause ∙ c.loop-end.invariant.count;
    }

pub returns-in-Ended-clause-whole : goal.returns-in-Ended-clause-whole
returns-in-Ended-clause-whole g c =
    let written = g.K.Sink.written in
    let first = standing_of g.S.Store.content c.args.self.now in
    let s = standing_of g.S.Store.content c.loop-end.self in
    let wrote = subst (λ round. Writes (Ok round) s (written c.loop-end.sink) (written c.round.new.sink)) c.in-Ended.is c.in_ok-end.ensures.written in
    ends (written c.args.sink.now) (written c.loop-end.sink) (written c.round.new.sink) (listing_bytes first.notation (left_of first)) (listing_bytes s.notation (left_of s))
    c.loop-end.invariant.left.written wrote
