use Rattle.std.proofs.Common.{◌≡◌, ◌∙◌, None, ap, flat_map, map, refl, subst, sym}
use Rattle.std.proofs.lemmas.List.{length-map}
use Rattle.std.proofs.lemmas.List.Elements.{All-map}
use Rattle.std.specs.List.{All}
use Rattle.cu_machine.specs.Level.{go_list}
use Rattle.cu_machine.specs.Listing.{after_lines, round_of}
use Rattle.cu_machine.specs.Validity.{IsValid}
use Rattle.cu_step.specs.Outcome.{next_of, state_of}
use Rattle.cu_search.specs.Standing.{left_of, outcomes_of, round_at}
use Rattle.cu_search.specs.Stands.{standing_of}
use Rattle.cu_search.specs.Totals.{and_lines}
use Rattle.cu_search.proofs.BranchLemmas.{all-follow, all-of_map, states-follow}
use Rattle.cu_search.proofs.ListingLemmas.{Listed, last-is, left-ends, left-goes_on, next-going, next-is}
use Rattle.cu_search.proofs.search.Search.count_round.Given.{Over}
use Rattle.cu_search.proofs.search.Search.count_round.Goals as goal
use Rattle.cu_search.proofs.search.Search.count_round.Goals.{After-or, In_ok-outcomes}

pub step_level-requires-clause-valid : goal.step_level-requires-clause-valid
step_level-requires-clause-valid g c =
    let content = g.S.Store.content in
    let code = c.args.self.now.program.now in
    rw c.replace-level.ensures.value
    (λ lifetimes bounds. all-of_map (IsValid code) (state_of content) c.args.self.now.level.items c.requires.going.valid)

-- what became of the level's branches
outcomes : (g : Over) (c : In_ok-outcomes g) → map (next_of g.S.Store.content) c.in_ok-outcomes.outcomes.items ≡ outcomes_of (standing_of g.S.Store.content c.args.self.now)
outcomes g c = rw (← c.replace-level.ensures.value) c.in_ok-outcomes.ensures.next

-- how the round came out
done : (g : Over) (c : After-or g)
    → Listed (standing_of g.S.Store.content c.args.self.now) None None
    c.count_outcomes.new.tally (map (state_of g.S.Store.content) c.in_ok-self.field-0.items) c.or.result
done g c =
    let content = g.S.Store.content in
    let s = standing_of content c.args.self.now in
    let level = outcomes g (goal.at.After-or g c).In_ok-outcomes in
    let same = ap (map (next_of content)) c.as_slice.ensures.value ∙ level in
    record {
      listed = c.in_ok-listed.listed;
      next = c.ending-next.result;
      waits = c.waits.result;
      count = c.len.result;
      written = refl;
      tally_is = c.in_ok-listed.ensures.tally ∙ ap (λ xs. (round_of s.round s.limits.answers s.tally xs).tally) same;
      listed_is = c.in_ok-listed.ensures.end ∙ ap (λ xs. (round_of s.round s.limits.answers s.tally xs).end) same;
      level_is = ap (map (state_of content)) c.in_ok-self.ensures ∙ states-follow content c.in_ok-outcomes.outcomes.items ∙ ap (flat_map go_list) level;
      waits_is = c.waits.ensures;
      count_is = c.len.ensures ∙ c.in_ok-self.field-0.ok.0 ∙ sym (length-map c.in_ok-self.field-0.items (state_of content));
      next_is = c.ending-next.ensures.end;
      last_is = c.or.ensures;
    }

-- what was counted
counted : (g : Over) (c : After-or g)
    → c.count_outcomes.new.totals ≡ and_lines c.args.totals.now (round_at (standing_of g.S.Store.content c.args.self.now)).lines
counted g c =
    let content = g.S.Store.content in
    let s = standing_of content c.args.self.now in
    let same = ap (map (next_of content)) c.as_slice.ensures.value ∙ outcomes g (goal.at.After-or g c).In_ok-outcomes in
    c.in_ok-listed.ensures.totals ∙ ap (λ xs. and_lines c.args.totals.now (round_of s.round s.limits.answers s.tally xs).lines) same

pub returns-in-Some-clause-standing : goal.returns-in-Some-clause-standing
returns-in-Some-clause-standing g c =
    let s = standing_of g.S.Store.content c.args.self.now in
    let some = sym (last-is (done g (goal.at.returns-in-Some-clause-standing g c).After-or)) ∙ c.in-Some.is in
    (some, sym (ap (λ listing. listing.end) (left-ends s c.in-Some.end c.requires.going.within some)), refl)

pub returns-in-Some-clause-totals : goal.returns-in-Some-clause-totals
returns-in-Some-clause-totals g c = counted g (goal.at.returns-in-Some-clause-totals g c).After-or

-- the branches that follow are valid
follow : (g : Over) (c : After-or g) → All (IsValid c.args.self.now.program.now) (map (state_of g.S.Store.content) c.in_ok-self.field-0.items)
follow g c =
    let content = g.S.Store.content in
    let code = c.args.self.now.program.now in
    All-map (IsValid code) (state_of content) c.in_ok-self.field-0.items
    (subst (All (λ branch. IsValid code (state_of content branch))) (sym c.in_ok-self.ensures)
    (all-follow (λ branch. IsValid code (state_of content branch)) c.in_ok-outcomes.outcomes.items c.in_ok-outcomes.ensures.valid))

pub returns-clause-standing : goal.returns-clause-standing
returns-clause-standing g c =
    let place = (goal.at.returns-clause-standing g c).After-or in
    let s = standing_of g.S.Store.content c.args.self.now in
    let it = done g place in
    let none = sym (last-is it) ∙ c.in_default.is in (
      none,
      next-is it,
      next-going it c.requires.going c.in_default.is (follow g place),
      left-goes_on s c.requires.going.within none ∙ ap (λ t. after_lines (round_at s).lines (left_of t)) (sym (next-is it)),
    )

pub returns-clause-totals : goal.returns-clause-totals
returns-clause-totals g c = counted g (goal.at.returns-clause-totals g c).After-or
