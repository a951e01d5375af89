use Rattle.std.proofs.Common.{Ok, subst}
use Rattle.std.specs.declared.alloc.AllocError.{AllocError}
use Rattle.cu_search.specs.declared.search.Round.{Round}
use Rattle.cu_search.specs.Rounds.{Leaves}
use Rattle.cu_search.specs.Stands.{standing_of}
use Rattle.cu_search.proofs.TotalsLemmas.{totals-end, totals-go_on}
use Rattle.cu_search.proofs.search.Search.tally.Goals as goal

pub loop-end-preserved : goal.loop-end-preserved
loop-end-preserved g c =
    let first = standing_of g.S.Store.content c.args.self.now in
    let s = standing_of g.S.Store.content c.loop-end.self in
    let after = standing_of g.S.Store.content c.count_round.new.self in
    let went = subst (λ (round : Round). Leaves {E = AllocError} (Ok round) s after) c.in_default.is c.in_ok-end.ensures.standing in
    record {
      left = totals-go_on c.loop-end.totals c.count_round.new.totals first s after went.3 c.loop-end.invariant.left c.in_ok-end.ensures.totals;
      going = went.2;
    }

pub returns-in-Ended-clause-totals : goal.returns-in-Ended-clause-totals
returns-in-Ended-clause-totals g c =
    let first = standing_of g.S.Store.content c.args.self.now in
    let s = standing_of g.S.Store.content c.loop-end.self in
    let after = standing_of g.S.Store.content c.count_round.new.self in
    let went = subst (λ (round : Round). Leaves {E = AllocError} (Ok round) s after) c.in-Ended.is c.in_ok-end.ensures.standing in
    totals-end c.loop-end.totals c.count_round.new.totals first s c.in-Ended.end c.loop-end.invariant.going.within went.0
    c.loop-end.invariant.left c.in_ok-end.ensures.totals
