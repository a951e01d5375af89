-- A level that is empty ends the search; another one is stepped from its first branch on.
use Rattle.std.proofs.Common.{[], ◌∷◌, ap, sym, ◌∙◌}
use Rattle.std.specs.Vec.Iter.{into_iter_items, into_iter_len}
use Rattle.cu_machine.specs.Next.{unless_one_is_large}
use Rattle.cu_machine.specs.State.{Branch, Idle}
use Rattle.cu_step.specs.Outcome.{next_of, state_of}
use Rattle.cu_sets.specs.Inside.Delivered.{delivered_by}
use Rattle.cu_sets.specs.Inside.Levels.{level_of}
use Rattle.cu_sets.proofs.FrameLemmas.{enters_first, enters_large, enters_none, first_valid, nothing_left, others_valid, running_valid}
use Rattle.cu_sets.proofs.searches.enter.Goals as goal

pub returns-then-is_too_large-clause-next : goal.returns-then-is_too_large-clause-next
returns-then-is_too_large-clause-next g c = λ program same.
    let content = g.S.Store.content in
    let running = c.args.running in
    enters_large (state_of content) program c.args.limits.now (content running.store) running.root running.goals.items running.call running.found.items running.level.items _
    (sym c.is_too_large.ensures ∙ c.if-is_too_large.true) c.too_large.ensures

pub returns-in_default-clause-next : goal.returns-in_default-clause-next
returns-in_default-clause-next g c = λ program same.
    let content = g.S.Store.content in
    let running = c.args.running in
    let level = c.into_iter-left.result in
    let none = nothing_left (into_iter_items level) (into_iter_len level) c.in_default.ensures.cases.0 level.rest.ok.0 in
    enters_none (state_of content) program c.args.limits.now (content running.store) running.root running.goals.items running.call running.found.items running.level.items
    (next_of content c.in_ok-outcome.outcome) (sym c.is_too_large.ensures ∙ c.if-is_too_large.false)
    (sym (c.into_iter-left.ensures.rest ∙ ap (λ vec. vec.items) c.replace-level.ensures.value) ∙ none)
    (c.in_ok-outcome.ensures.next ∙ ap (λ special. unless_one_is_large c.args.limits.now (Branch (delivered_by special (content running.store) running.call running.found.items) running.root running.goals.items Idle ∷ [])) (sym same))

pub returns-clause-next : goal.returns-clause-next
returns-clause-next g c = λ program same.
    let content = g.S.Store.content in
    let running = c.args.running in
    enters_first (state_of content) program c.args.limits.now (content running.store) running.root running.goals.items running.call running.found.items running.level.items
    (into_iter_items c.next.new.self) c.in-Some.branch (level_of content c.new-after.result) (sym c.is_too_large.ensures ∙ c.if-is_too_large.false)
    (sym (c.into_iter-left.ensures.rest ∙ ap (λ vec. vec.items) c.replace-level.ensures.value) ∙ c.in-Some.ensures.items) c.new-after.ensures

pub returns-clause-valid : goal.returns-clause-valid
returns-clause-valid g c = λ program valid.
    let content = g.S.Store.content in
    let running = c.args.running in
    let is = sym (c.into_iter-left.ensures.rest ∙ ap (λ vec. vec.items) c.replace-level.ensures.value) ∙ c.in-Some.ensures.items in
    let all = running_valid (state_of content) program (content running.store) running.root running.goals.items running.call running.found.items running.level.items valid in (
      record {
        call = c.requires.call;
        left = others_valid (state_of content) program running.level.items (into_iter_items c.next.new.self) c.in-Some.branch is all;
      },
      first_valid (state_of content) program running.level.items (into_iter_items c.next.new.self) c.in-Some.branch is all,
    )
