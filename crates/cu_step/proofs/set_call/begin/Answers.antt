-- A partial application in an argument leaves the call stuck. Otherwise the search begins, unless
-- it begins too large.
use Rattle.std.proofs.Common.{[], ◌∷◌, List, ap, map, nat_lt, option_map, sym, ◌∙◌}
use Rattle.cu_calculus.specs.Value.{Value, values_of}
use Rattle.cu_machine.specs.Next.{Go}
use Rattle.cu_machine.specs.Spell.{cells_of_all, ordinal, renumbered, spelled, variables_of_all}
use Rattle.cu_machine.specs.State.{State, call_on}
use Rattle.cu_step.specs.Inside.Moved.{move_of}
use Rattle.cu_step.specs.Inside.Occurring.{are_reached}
use Rattle.cu_step.specs.Outcome.{next_of, state_of}
use Rattle.cu_step.specs.declared.Outcome.TheVariants as outcome
use Rattle.cu_step.specs.declared.occurs.Sought.TheVariants as sought
use Rattle.cu_step.proofs.Builds.{if_ok}
use Rattle.cu_step.proofs.SetCalls.{begun_state, large_arguments, large_inner, read_call, search_begins, sticks_there, values_read}
use Rattle.cu_step.proofs.set_call.begin.Goals as goal

pub returns-then-branch-clause-next : goal.returns-then-branch-clause-next
returns-then-branch-clause-next g c =
    let content = g.S.Store.content in
    let aim = c.args.aim in
    let graph = content c.args.store in
    let args = c.in_ok-args.args.items in
    let program = c.args.program.now in
    let limits = c.args.limits.now in
    let part = sym (ap (are_reached graph sought.Part) c.as_slice.ensures.value) ∙ sym c.in_ok-are_reached.ensures ∙ c.if-branch.true in
    let what = move_of content c.in_ok-graphs.graphs in
    if_ok c.following.result _ _
    (λ o is. sticks_there program limits graph aim.root aim.goals.items c.args.call.id c.args.call.function args c.requires.call c.in_ok-args.ensures (next_of content o) what part c.in_ok-graphs.ensures
    (is program graph c.args.call.id))
    c.following.ensures.next

pub returns-in_default-clause-next : goal.returns-in_default-clause-next
returns-in_default-clause-next g c =
    let content = g.S.Store.content in
    let aim = c.args.aim in
    let graph = content c.args.store in
    let args = c.in_ok-args.args.items in
    let program = c.args.program.now in
    let limits = c.args.limits.now in
    let none = sym (ap (are_reached graph sought.Part) c.as_slice.ensures.value) ∙ sym c.in_ok-are_reached.ensures ∙ c.if-branch.false in
    let number = ordinal (variables_of_all (map (spelled graph) args)) in
    large_arguments program limits graph aim.root aim.goals.items c.args.call.id c.args.call.function args c.requires.call c.in_ok-args.ensures _ (map (renumbered number) (map (spelled graph) args)) none
    (sym (ap (option_map (λ values. values.items)) c.in_default.is) ∙ c.in_ok-values.ensures ∙ ap (values_read graph limits.nodes) c.as_slice-2.ensures.value)
    c.too_large.ensures

pub returns-then-is_too_large-clause-next : goal.returns-then-is_too_large-clause-next
returns-then-is_too_large-clause-next g c =
    let content = g.S.Store.content in
    let aim = c.args.aim in
    let graph = content c.args.store in
    let args = c.in_ok-args.args.items in
    let program = c.args.program.now in
    let limits = c.args.limits.now in
    let none = sym (ap (are_reached graph sought.Part) c.as_slice.ensures.value) ∙ sym c.in_ok-are_reached.ensures ∙ c.if-branch.false in
    let number = ordinal (variables_of_all (map (spelled graph) args)) in
    let reads = sym (ap (option_map (λ values. values.items)) c.in-Some.is) ∙ c.in_ok-values.ensures ∙ ap (values_read graph limits.nodes) c.as_slice-2.ensures.value in
    let whole = c.in_ok-inner.ensures ∙ ap (λ (vs : List Value). call_on program c.args.call.function (values_of vs)) c.as_slice-3.ensures.value
    ∙ read_call program limits graph aim.root aim.goals.items c.args.call.id c.args.call.function args c.requires.call c.in_ok-args.ensures number c.in-Some.values.items (nat_lt limits.nodes (cells_of_all (map (spelled graph) args))) reads in
    large_inner program limits graph aim.root aim.goals.items c.args.call.id c.args.call.function args c.requires.call c.in_ok-args.ensures _ (state_of content c.in_ok-inner.inner) none whole
    (sym c.is_too_large.ensures ∙ c.if-is_too_large.true) c.too_large-then-is_too_large.ensures

pub returns-clause-next : goal.returns-clause-next
returns-clause-next g c =
    let content = g.S.Store.content in
    let aim = c.args.aim in
    let graph = content c.args.store in
    let args = c.in_ok-args.args.items in
    let program = c.args.program.now in
    let limits = c.args.limits.now in
    let none = sym (ap (are_reached graph sought.Part) c.as_slice.ensures.value) ∙ sym c.in_ok-are_reached.ensures ∙ c.if-branch.false in
    let number = ordinal (variables_of_all (map (spelled graph) args)) in
    let reads = sym (ap (option_map (λ values. values.items)) c.in-Some.is) ∙ c.in_ok-values.ensures ∙ ap (values_read graph limits.nodes) c.as_slice-2.ensures.value in
    let whole = c.in_ok-inner.ensures ∙ ap (λ (vs : List Value). call_on program c.args.call.function (values_of vs)) c.as_slice-3.ensures.value
    ∙ read_call program limits graph aim.root aim.goals.items c.args.call.id c.args.call.function args c.requires.call c.in_ok-args.ensures number c.in-Some.values.items (nat_lt limits.nodes (cells_of_all (map (spelled graph) args))) reads in
    let begun = begun_state (state_of content) graph aim.root aim.goals.items c.args.call.id c.new.result.items c.in_ok-level.level.items c.push.new.self.items c.in_ok-inner.inner
    (state_of content c.going_on.result) c.new.ensures.items c.in_ok-level.ensures.items c.in_ok-push.ensures.items c.going_on.ensures in
    search_begins program limits graph aim.root aim.goals.items c.args.call.id c.args.call.function args c.requires.call c.in_ok-args.ensures
    (next_of content (outcome.On c.going_on.result)) (state_of content c.in_ok-inner.inner) none whole
    (sym c.is_too_large.ensures ∙ c.if-is_too_large.false) (ap (λ (s : State). Go (s ∷ [])) begun)
