use Rattle.std.proofs.Common.{◌≡◌, ◌≤◌, ◌∙◌, ap, arith, flat_map, length, map, refl, subst, sym}
use Rattle.cu_pile.specs.Outcomes.{EachBelow}
use Rattle.std.proofs.lemmas.List.{length-map}
use Rattle.std.proofs.lemmas.List.Elements.{All-map}
use Rattle.std.specs.List.{All}
use Rattle.cu_machine.specs.Level.{go_list}
use Rattle.cu_machine.specs.Listing.{after_lines, round_of}
use Rattle.cu_machine.specs.Validity.{IsValid}
use Rattle.cu_step.specs.Outcome.{next_of, state_of}
use Rattle.cu_search.specs.Lines.{lines_bytes}
use Rattle.cu_search.specs.Standing.{left_of, outcomes_of, round_at}
use Rattle.cu_search.specs.Stands.{standing_of}
use Rattle.cu_search.specs.Written.{Adds, AddsPrefix}
use Rattle.cu_search.proofs.BranchLemmas.{all-follow, all-of_map, states-follow}
use Rattle.cu_search.proofs.ListingLemmas.{Listed, end-prefix, end-written, last-is, left-ends, left-goes_on, lines-prefix, next-going, next-is, writes-err}
use Rattle.cu_search.proofs.WrittenLemmas.{Adds-nothing, whole_prefix}
use Rattle.cu_search.proofs.search.Search.round.Given.{Over}
use Rattle.cu_search.proofs.search.Search.round.Goals as goal
use Rattle.cu_search.proofs.search.Search.round.Goals.{After-or, In_ok-listed, In_ok-outcomes}

pub step_level-requires-clause-valid : goal.step_level-requires-clause-valid
step_level-requires-clause-valid g c =
    let content = g.S.Store.content in
    let code = c.args.self.now.program.now in
    rw c.replace-level.ensures.value
    (λ lifetimes bounds. all-of_map (IsValid code) (state_of content) c.args.self.now.level.items c.requires.going.valid)

-- what became of the level's branches
outcomes : (g : Over) (c : In_ok-outcomes g) → map (next_of g.S.Store.content) c.in_ok-outcomes.outcomes.items ≡ outcomes_of (standing_of g.S.Store.content c.args.self.now)
outcomes g c = rw (← c.replace-level.ensures.value) c.in_ok-outcomes.ensures.next

pub returns-in_err-outcomes-clause-written : goal.returns-in_err-outcomes-clause-written
returns-in_err-outcomes-clause-written g c =
    let written = g.K.Sink.written c.args.sink.now in
    writes-err c.from_residual.result (standing_of g.S.Store.content c.args.self.now) written written c.from_residual.ensures.0 (0, omega arith, Adds-nothing written)

-- the gate was told the number of each branch
told_each : (g : Over) (c : In_ok-outcomes g) → 2 ≤ length (standing_of g.S.Store.content c.args.self.now).level
    → EachBelow (length (standing_of g.S.Store.content c.args.self.now).level) (g.G.Gate.told c.args.gate.now)
told_each g c two =
    let level = c.args.self.now.level in
    let same : length (map (state_of g.S.Store.content) level.items) ≡ length c.replace-level.result.items =
    length-map level.items (state_of g.S.Store.content) ∙ sym (ap (λ v. length v.items) c.replace-level.ensures.value) in
    let each : EachBelow (length c.replace-level.result.items) (g.G.Gate.told c.args.gate.now) = c.in_ok-outcomes.ensures.told (subst (λ k. 2 ≤ k) same two) in
    subst (λ k. EachBelow k (g.G.Gate.told c.args.gate.now)) (sym same) each

pub returns-in_err-listed-clause-written : goal.returns-in_err-listed-clause-written
returns-in_err-listed-clause-written g c =
    let content = g.S.Store.content in
    let written = g.K.Sink.written in
    let s = standing_of content c.args.self.now in
    let same = ap (map (next_of content)) c.as_slice.ensures.value ∙ outcomes g (goal.at.returns-in_err-listed-clause-written g c).In_ok-outcomes in
    writes-err c.from_residual-in_err-listed.result s (written c.args.sink.now) (written c.list_outcomes.new.sink) c.from_residual-in_err-listed.ensures.0
    (lines-prefix s (written c.args.sink.now) (written c.list_outcomes.new.sink) c.requires.going.within
    (subst (λ xs. AddsPrefix (written c.args.sink.now) (written c.list_outcomes.new.sink) (lines_bytes s.notation (round_of s.round s.limits.answers s.tally xs).lines))
    same c.in_err-listed.ensures.prefix))

-- the lines of the round were written
lines : (g : Over) (c : In_ok-listed g)
    → Adds (g.K.Sink.written c.args.sink.now) (g.K.Sink.written c.list_outcomes.new.sink)
    (lines_bytes (standing_of g.S.Store.content c.args.self.now).notation (round_at (standing_of g.S.Store.content c.args.self.now)).lines)
lines g c =
    let content = g.S.Store.content in
    let written = g.K.Sink.written in
    let s = standing_of content c.args.self.now in
    let same = ap (map (next_of content)) c.as_slice.ensures.value ∙ outcomes g (goal.at.In_ok-listed g c).In_ok-outcomes in
    subst (λ xs. Adds (written c.args.sink.now) (written c.list_outcomes.new.sink) (lines_bytes s.notation (round_of s.round s.limits.answers s.tally xs).lines))
    same c.in_ok-listed.ensures.whole

-- how the round came out
done : (g : Over) (c : After-or g)
    → Listed (standing_of g.S.Store.content c.args.self.now) (g.K.Sink.written c.args.sink.now) (g.K.Sink.written c.list_outcomes.new.sink)
    c.list_outcomes.new.tally (map (state_of g.S.Store.content) c.in_ok-self.field-0.items) c.or.result
done g c =
    let content = g.S.Store.content in
    let s = standing_of content c.args.self.now in
    let level = outcomes g (goal.at.After-or g c).In_ok-outcomes in
    let same = ap (map (next_of content)) c.as_slice.ensures.value ∙ level in
    record {
      listed = c.in_ok-listed.listed;
      next = c.ending-next.result;
      waits = c.waits.result;
      count = c.len.result;
      written = lines g (goal.at.After-or g c).In_ok-listed;
      tally_is = c.in_ok-listed.ensures.tally ∙ ap (λ xs. (round_of s.round s.limits.answers s.tally xs).tally) same;
      listed_is = c.in_ok-listed.ensures.end ∙ ap (λ xs. (round_of s.round s.limits.answers s.tally xs).end) same;
      level_is = ap (map (state_of content)) c.in_ok-self.ensures ∙ states-follow content c.in_ok-outcomes.outcomes.items ∙ ap (flat_map go_list) level;
      waits_is = c.waits.ensures;
      count_is = c.len.ensures ∙ c.in_ok-self.field-0.ok.0 ∙ sym (length-map c.in_ok-self.field-0.items (state_of content));
      next_is = c.ending-next.ensures.end;
      last_is = c.or.ensures;
    }

pub returns-in_err-self-clause-written : goal.returns-in_err-self-clause-written
returns-in_err-self-clause-written g c =
    let written = g.K.Sink.written in
    let s = standing_of g.S.Store.content c.args.self.now in
    let all = lines g (goal.at.returns-in_err-self-clause-written g c).In_ok-listed in
    writes-err c.from_residual-in_err-self.result s (written c.args.sink.now) (written c.list_outcomes.new.sink) c.from_residual-in_err-self.ensures.0
    (lines-prefix s (written c.args.sink.now) (written c.list_outcomes.new.sink) c.requires.going.within
    (whole_prefix (written c.args.sink.now) (written c.list_outcomes.new.sink) (lines_bytes s.notation (round_at s).lines) all))

pub returns-in_err-write_end-clause-written : goal.returns-in_err-write_end-clause-written
returns-in_err-write_end-clause-written g c =
    let written = g.K.Sink.written in
    let s = standing_of g.S.Store.content c.args.self.now in
    let it = done g (goal.at.returns-in_err-write_end-clause-written g c).After-or in
    writes-err c.from_residual-in_err-write_end.result s (written c.args.sink.now) (written c.write_end.new.sink) c.from_residual-in_err-write_end.ensures.0
    (end-prefix s c.in-Some.end (written c.args.sink.now) (written c.list_outcomes.new.sink) (written c.write_end.new.sink) c.requires.going.within
    (sym (last-is it) ∙ c.in-Some.is) it.written c.in_err-write_end.ensures.prefix)

pub returns-in-Some-clause-standing : goal.returns-in-Some-clause-standing
returns-in-Some-clause-standing g c =
    let s = standing_of g.S.Store.content c.args.self.now in
    let some = sym (last-is (done g (goal.at.returns-in-Some-clause-standing g c).After-or)) ∙ c.in-Some.is in
    (some, sym (ap (λ listing. listing.end) (left-ends s c.in-Some.end c.requires.going.within some)), refl)

pub returns-in-Some-clause-written : goal.returns-in-Some-clause-written
returns-in-Some-clause-written g c =
    let written = g.K.Sink.written in
    let s = standing_of g.S.Store.content c.args.self.now in
    let it = done g (goal.at.returns-in-Some-clause-written g c).After-or in
    end-written s c.in-Some.end (written c.args.sink.now) (written c.list_outcomes.new.sink) (written c.write_end.new.sink) c.requires.going.within
    (sym (last-is it) ∙ c.in-Some.is) it.written c.in_ok-write_end.ensures.whole

-- the branches that follow are valid
follow : (g : Over) (c : After-or g) → All (IsValid c.args.self.now.program.now) (map (state_of g.S.Store.content) c.in_ok-self.field-0.items)
follow g c =
    let content = g.S.Store.content in
    let code = c.args.self.now.program.now in
    All-map (IsValid code) (state_of content) c.in_ok-self.field-0.items
    (subst (All (λ branch. IsValid code (state_of content branch))) (sym c.in_ok-self.ensures)
    (all-follow (λ branch. IsValid code (state_of content branch)) c.in_ok-outcomes.outcomes.items c.in_ok-outcomes.ensures.valid))

pub returns-clause-standing : goal.returns-clause-standing
returns-clause-standing g c =
    let place = (goal.at.returns-clause-standing g c).After-or in
    let s = standing_of g.S.Store.content c.args.self.now in
    let it = done g place in
    let none = sym (last-is it) ∙ c.in_default.is in (
      none,
      next-is it,
      next-going it c.requires.going c.in_default.is (follow g place),
      left-goes_on s c.requires.going.within none ∙ ap (λ t. after_lines (round_at s).lines (left_of t)) (sym (next-is it)),
    )

pub returns-in-Some-clause-told : goal.returns-in-Some-clause-told
returns-in-Some-clause-told g c = told_each g (goal.at.returns-in-Some-clause-told g c).In_ok-outcomes

pub returns-clause-written : goal.returns-clause-written
returns-clause-written g c = lines g (goal.at.returns-clause-written g c).In_ok-listed

pub returns-clause-told : goal.returns-clause-told
returns-clause-told g c = told_each g (goal.at.returns-clause-told g c).In_ok-outcomes
