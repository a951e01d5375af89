use Rattle.std.proofs.Common.{[], List, map, refl, subst, sym}
use Rattle.std.specs.List.{All}
use Rattle.cu_syntax.specs.declared.name.Name.{Name}
use Rattle.cu_syntax.specs.Answer.{goal_meaning}
use Rattle.cu_syntax.specs.Owners.{NameIsOf}
use Rattle.cu_uses.specs.Demands.{with}
use Rattle.cu_uses.specs.Inside.Worlds.{Told, World}
use Rattle.cu_uses.proofs.FoundLemmas.{on_ok}
use Rattle.cu_uses.proofs.WalkLemmas.{goal_told, sees_inside, sees_top}
use Rattle.cu_uses.proofs.uses.goal_faults.Goals as goal

pub returns : goal.returns
returns c owner names bindings faults differ tells is told =
    let w : World = record { owner = owner; names = names; bindings = bindings } in
    let free_is = c.in_ok-free.ensures.meaning names in
    let free_of = c.in_ok-free.ensures.owned owner names is in
    let top = sees_top w c.args.table.now c.top-top.result differ tells c.top-top.ensures.table c.top-top.ensures.local in
    let sees = sees_inside w [] (goal_meaning names c.args.goal.now).free c.as_slice-2.result.now c.in_ok-free.free.items c.top-top.result c.inside-scope.result top c.as_slice-2.ensures.value free_is free_of
    c.inside-scope.ensures.table c.inside-scope.ensures.local in
    on_ok c.expression-2.result
    (λ walked. (goal_told w (goal_meaning names c.args.goal.now) c.in_ok-free.free.items c.as_slice.result.now c.expression.result c.args.first.now c.tell_repeated.new.first c.expression-2.new.first
    c.as_slice.ensures.value free_is (c.expression.ensures.meaning names)
    (c.in_ok-tell_repeated.ensures w differ (subst (All (NameIsOf owner names)) (sym c.as_slice.ensures.value) free_of)) walked).told faults told)
    (c.expression-2.ensures w (with (goal_meaning names c.args.goal.now).free []) sees (c.expression.ensures.owned owner names is))
