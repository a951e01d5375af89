-- The branches of the graphs follow, unless one of them is too large.
use Rattle.std.proofs.Common.{[], ◌∷◌, ◌||◌, ap, false, length, map, subst, sym, ◌∙◌}
use Rattle.std.specs.List.{list_any}
use Rattle.cu_machine.specs.Next.{is_above, moved}
use Rattle.cu_machine.specs.Rewrite.{Move}
use Rattle.cu_machine.specs.State.{State}
use Rattle.cu_step.specs.Inside.Moved.{move_of}
use Rattle.cu_step.specs.Outcome.{state_of}
use Rattle.cu_step.specs.Inside.Kept.{AllMayGoOn, MayGoOn}
use Rattle.cu_step.proofs.Elements.{all_mapped, first_has}
use Rattle.cu_step.proofs.StepLemmas.{none_is_large, one_is_large}
use Rattle.cu_step.proofs.following.Goals as goal

pub in_graph-requires-after_bounds : goal.in_graph-requires-after_bounds
in_graph-requires-after_bounds g c κs within =
    let aim = c.args.aim in
    let content = g.S.Store.content in
    let here = subst (λ (what : Move). AllMayGoOn aim.root aim.walk what) (ap (move_of content) c.in-Alone.is) c.requires.walk in
    first_has (λ graph. MayGoOn graph aim.root aim.walk) (content c.in-Alone.store) [] here

pub returns-then-is_too_large-clause-next : goal.returns-then-is_too_large-clause-next
returns-then-is_too_large-clause-next g c = λ program graph id.
    let content = g.S.Store.content in
    let limits = c.args.limits.now in
    let any = ap (λ b. b || false) (sym c.is_too_large.ensures ∙ c.if-is_too_large.true) in
    c.too_large.ensures ∙ sym (one_is_large content limits c.args.aim.root c.args.aim.goals.items (c.in-Alone.store ∷ []) any)
    ∙ ap (λ (what : Move). moved program limits c.args.aim.root c.args.aim.goals.items graph id what) (sym (ap (move_of content) c.in-Alone.is))

pub returns-else-is_too_large-clause-next : goal.returns-else-is_too_large-clause-next
returns-else-is_too_large-clause-next g c = λ program graph id.
    let content = g.S.Store.content in
    let limits = c.args.limits.now in
    let any = ap (λ b. b || false) (sym c.is_too_large.ensures ∙ c.if-is_too_large.false) in
    none_is_large content limits c.args.aim.root c.args.aim.goals.items (c.in-Alone.store ∷ []) (state_of content c.in_graph.result ∷ [])
    any (ap (λ (s : State). s ∷ []) c.in_graph.ensures)
    ∙ ap (λ (what : Move). moved program limits c.args.aim.root c.args.aim.goals.items graph id what) (sym (ap (move_of content) c.in-Alone.is))

pub returns-then-any_too_large-clause-next : goal.returns-then-any_too_large-clause-next
returns-then-any_too_large-clause-next g c = λ program graph id.
    let content = g.S.Store.content in
    let limits = c.args.limits.now in
    let any = sym (ap (list_any (λ store. is_above limits (length (content store)))) c.as_slice.ensures.value) ∙ sym c.any_too_large.ensures ∙ c.if-any_too_large.true in
    c.too_large-then-any_too_large.ensures ∙ sym (one_is_large content limits c.args.aim.root c.args.aim.goals.items c.in-Become.stores.items any)
    ∙ ap (λ (what : Move). moved program limits c.args.aim.root c.args.aim.goals.items graph id what) (sym (ap (move_of content) c.in-Become.is))

pub returns-in_ok-branches-in-Become-clause-next : goal.returns-in_ok-branches-in-Become-clause-next
returns-in_ok-branches-in-Become-clause-next g c = λ program graph id.
    let content = g.S.Store.content in
    let limits = c.args.limits.now in
    let any = sym (ap (list_any (λ store. is_above limits (length (content store)))) c.as_slice.ensures.value) ∙ sym c.any_too_large.ensures ∙ c.if-any_too_large.false in
    none_is_large content limits c.args.aim.root c.args.aim.goals.items c.in-Become.stores.items (map (state_of content) c.in_ok-branches-in-Become.branches.items)
    any c.in_ok-branches-in-Become.ensures
    ∙ ap (λ (what : Move). moved program limits c.args.aim.root c.args.aim.goals.items graph id what) (sym (ap (move_of content) c.in-Become.is))

pub branches-requires-after_bounds : goal.branches-requires-after_bounds
branches-requires-after_bounds g c κs within =
    let aim = c.args.aim in
    all_mapped g.S.Store.content (λ graph. MayGoOn graph aim.root aim.walk) c.in-Become.stores.items
    (subst (λ (what : Move). AllMayGoOn aim.root aim.walk what) (ap (move_of g.S.Store.content) c.in-Become.is) c.requires.walk)
