-- A branch in which a search runs is answered as it was. One that is too large stops; any other is
-- valid, and goes on by what its value needs.
use Rattle.std.proofs.Common.{◌≡◌, ap, subst, sym, true≢false, ◌∙◌}
use Rattle.cu_machine.specs.Next.{next}
use Rattle.cu_machine.specs.State as state
use Rattle.cu_machine.specs.State.{Branch, Idle}
use Rattle.cu_machine.specs.Validity.{IsValid}
use Rattle.cu_step.specs.Outcome.{search_of, state_of}
use Rattle.cu_step.proofs.BranchStates.{idle_search}
use Rattle.cu_step.proofs.Builds.{if_ok}
use Rattle.cu_step.proofs.Known.{may_known}
use Rattle.cu_step.proofs.StepLemmas.{follow_valid, next_large, next_small, one_valid}
use Rattle.cu_step.proofs.step_with.Given.{Over}
use Rattle.cu_step.proofs.step_with.Goals.{After-is_too_large}
use Rattle.cu_step.proofs.step_with.Goals as goal

pub returns-then-is_running-clause-valid : goal.returns-then-is_running-clause-valid
returns-then-is_running-clause-valid g c =
    one_valid (λ branch. IsValid c.args.program.now (state_of g.S.Store.content branch)) c.args.branch c.requires.valid

pub returns-then-is_running-clause-next : goal.returns-then-is_running-clause-next
returns-then-is_running-clause-next g c = λ idle. absurd (true≢false (sym c.if-is_running.true ∙ c.is_running.ensures ∙ idle))

pub returns-then-is_too_large-clause-same : goal.returns-then-is_too_large-clause-same
returns-then-is_too_large-clause-same g c = λ running. absurd (true≢false (sym running ∙ (sym c.is_running.ensures ∙ c.if-is_running.false)))

-- no search runs
idle : (g : Over) (c : After-is_too_large g) → search_of g.S.Store.content c.args.branch.search ≡ Idle
idle g c =
    let branch = c.args.branch in
    idle_search (g.S.Store.content branch.focus.store) branch.focus.root branch.goals.items (search_of g.S.Store.content branch.search)
    (sym c.is_running.ensures ∙ c.if-is_running.false)

valid : (g : Over) (c : After-is_too_large g)
    → IsValid c.args.program.now (Branch (g.S.Store.content c.args.branch.focus.store) c.args.branch.focus.root c.args.branch.goals.items Idle)
valid g c =
    let branch = c.args.branch in
    subst (λ (s : state.Search). IsValid c.args.program.now (Branch (g.S.Store.content branch.focus.store) branch.focus.root branch.goals.items s)) (idle g c) c.requires.valid

same : (g : Over) (c : After-is_too_large g)
    → next c.args.program.now c.args.limits.now (state_of g.S.Store.content c.args.branch)
    ≡ next c.args.program.now c.args.limits.now (Branch (g.S.Store.content c.args.branch.focus.store) c.args.branch.focus.root c.args.branch.goals.items Idle)
same g c =
    let branch = c.args.branch in
    ap (λ (s : state.Search). next c.args.program.now c.args.limits.now (Branch (g.S.Store.content branch.focus.store) branch.focus.root branch.goals.items s)) (idle g c)

pub returns-then-is_too_large-clause-next : goal.returns-then-is_too_large-clause-next
returns-then-is_too_large-clause-next g c =
    let branch = c.args.branch in
    let here = (goal.at.returns-then-is_too_large-clause-next g c).After-is_too_large in
    λ idle. c.too_large.ensures ∙ sym (same g here ∙ next_large c.args.program.now c.args.limits.now (g.S.Store.content branch.focus.store) branch.focus.root branch.goals.items
    (sym c.is_too_large.ensures ∙ c.if-is_too_large.true))

pub by_need-requires : goal.by_need-requires
by_need-requires g c =
    let focus = c.args.branch.focus in
    (c.type_bounds.send-S, (valid g (goal.at.by_need-requires g c).After-is_too_large, may_known (g.S.Store.content focus.store) focus.root focus.walk focus.kept))

pub returns-clause-next : goal.returns-clause-next
returns-clause-next g c =
    let branch = c.args.branch in
    let graph = g.S.Store.content branch.focus.store in
    let program = c.args.program.now in
    let limits = c.args.limits.now in
    let here = (goal.at.returns-clause-next g c).After-is_too_large in
    if_ok c.by_need.result _ _
    (λ o is. λ idle. is ∙ sym (same g here ∙ next_small program limits graph branch.focus.root branch.goals.items (sym c.is_too_large.ensures ∙ c.if-is_too_large.false)))
    c.by_need.ensures.next

pub returns-clause-inner : goal.returns-clause-inner
returns-clause-inner g c = if_ok c.by_need.result _ _ (λ o is. is ∙ sym (sym c.is_running.ensures ∙ c.if-is_running.false)) c.by_need.ensures.inner

pub returns-clause-same : goal.returns-clause-same
returns-clause-same g c =
    if_ok c.by_need.result _ _ (λ o is. λ running. absurd (true≢false (sym running ∙ (sym c.is_running.ensures ∙ c.if-is_running.false)))) c.by_need.ensures.inner

pub returns-clause-valid : goal.returns-clause-valid
returns-clause-valid g c =
    let branch = c.args.branch in
    if_ok c.by_need.result _ _
    (λ o is. follow_valid g.S.Store.content c.args.program.now c.args.limits.now (state_of g.S.Store.content branch)
    c.by_need.ensures.well_formed c.requires.valid o (is (sym c.is_running.ensures ∙ c.if-is_running.false)))
    (returns-clause-next g c)
