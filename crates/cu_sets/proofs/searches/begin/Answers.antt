-- A branch in which a search runs is opened as it was.
use Rattle.std.proofs.Common.{◌≡◌, true, ap, map, subst, sym, ◌∙◌}
use Rattle.cu_graph.specs.declared.store.Store.{Ghosts}
use Rattle.cu_machine.specs.Graph.{Graph}
use Rattle.cu_machine.specs.Next.{next}
use Rattle.cu_machine.specs.State.{State, states_of}
use Rattle.cu_machine.specs.Validity.{IsValid}
use Rattle.cu_step.specs.declared.branch.BranchOver.{BranchOver}
use Rattle.cu_step.specs.declared.focus.Focus.{Focus}
use Rattle.cu_step.specs.declared.Outcome.{Outcome}
use Rattle.cu_step.specs.declared.Outcome.TheVariants as outcome
use Rattle.cu_step.specs.Outcome.{is_inner, is_running, state_of}
use Rattle.cu_step.proofs.Builds.{if_ok}
use Rattle.cu_sets.proofs.FrameLemmas.{call_there}
use Rattle.cu_sets.proofs.searches.begin.Goals as goal

-- the branch that is answered is the one that was given
same : {S : Type 0} {G : Ghosts S} (content : S → Graph) (o : Outcome S G) (branch given : BranchOver (Focus S G)) → o ≡ outcome.Inner branch → is_inner o ≡ is_running (state_of content given)
    → (is_running (state_of content given) ≡ true → o ≡ outcome.Inner given) → branch ≡ given
same content o branch given is tells keeps =
    let kept = keeps (sym tells ∙ ap is_inner is) in
    let e : outcome.Inner branch ≡ outcome.Inner given = sym is ∙ kept in cc

-- what stands of the branch that is answered stands of the one that was given
pub enter-requires-clause-call : goal.enter-requires-clause-call
enter-requires-clause-call g c κs within =
    let content = g.S.Store.content in
    let running = c.opened.result in
    let given = same content _ c.in-Inner.branch c.args.branch c.in-Inner.is c.in_ok-outcome.ensures.inner c.in_ok-outcome.ensures.same in
    call_there c.args.program.now (content running.store) running.root running.goals.items running.call running.found.items (states_of (map (state_of content) running.level.items))
    (subst (λ (s : State). IsValid c.args.program.now s) (sym (c.opened.ensures ∙ ap (state_of content) given)) c.requires.valid)

pub returns-in-Inner-clause-next : goal.returns-in-Inner-clause-next
returns-in-Inner-clause-next g c =
    let content = g.S.Store.content in
    let given = same content _ c.in-Inner.branch c.args.branch c.in-Inner.is c.in_ok-outcome.ensures.inner c.in_ok-outcome.ensures.same in
    if_ok c.enter.result _ _
    (λ t becomes. becomes c.args.program.now (sym c.special-special.ensures.special) ∙ ap (next c.args.program.now c.args.limits.now) (c.opened.ensures ∙ ap (state_of content) given)) c.enter.ensures.next

pub returns-in-Inner-clause-valid : goal.returns-in-Inner-clause-valid
returns-in-Inner-clause-valid g c =
    let content = g.S.Store.content in
    let given = same content _ c.in-Inner.branch c.args.branch c.in-Inner.is c.in_ok-outcome.ensures.inner c.in_ok-outcome.ensures.same in
    if_ok c.enter.result _ _
    (λ t valid. valid c.args.program.now (subst (λ (s : State). IsValid c.args.program.now s) (sym (c.opened.ensures ∙ ap (state_of content) given)) c.requires.valid)) c.enter.ensures.valid
