-- In each graph the walk may go on.
use Rattle.std.proofs.Common.{◌++◌, List, ap₂, map, subst, sym, ◌∙◌}
use Rattle.std.specs.List.{All}
use Rattle.std.specs.Vec.Iter.{into_iter_items}
use Rattle.cu_machine.specs.State.{Branch, Idle}
use Rattle.cu_step.specs.Inside.Kept.{MayGoOn}
use Rattle.cu_step.specs.Outcome.{state_of}
use Rattle.cu_step.proofs.Elements.{first_has, later_have, one_done}
use Rattle.cu_step.proofs.branches.Goals as goal

pub loop-store-init : goal.loop-store-init
loop-store-init g c =
    let content = g.S.Store.content in
    let all = c.args.stores.items in
    let at = λ (store : g.row.S.Denot). Branch (content store) c.args.aim.root c.args.aim.goals.items Idle in
    let same = c.into_iter-store-iterator.ensures.into_iter_gives.0 in
    record {
      states = ap₂ (λ done left. map (state_of content) done ++ map at left) c.in_ok-branches.ensures.items same;
      may = subst (λ (stores : List g.row.S.Denot). All (λ (store : g.row.S.Denot). MayGoOn (content store) c.args.aim.root c.args.aim.walk) stores) (sym same) c.requires;
    }

pub in_graph-requires-after_bounds : goal.in_graph-requires-after_bounds
in_graph-requires-after_bounds g c κs within =
    let content = g.S.Store.content in
    let may = λ (store : g.row.S.Denot). MayGoOn (content store) c.args.aim.root c.args.aim.walk in
    let here = subst (λ (stores : List g.row.S.Denot). All may stores) c.in-Some.ensures.steps.0 c.loop-store.invariant.may in
    c.in_ok-aim.ensures.walk (content c.in-Some.store) (first_has may c.in-Some.store (into_iter_items c.next.new.self) here)

pub loop-store-preserved : goal.loop-store-preserved
loop-store-preserved g c =
    let content = g.S.Store.content in
    let all = c.args.stores.items in
    let at = λ (store : g.row.S.Denot). Branch (content store) c.args.aim.root c.args.aim.goals.items Idle in
    let may = λ (store : g.row.S.Denot). MayGoOn (content store) c.args.aim.root c.args.aim.walk in
    let same = c.in_graph.ensures
    ∙ ap₂ (λ root goals. Branch (content c.in-Some.store) root goals Idle) c.in_ok-aim.ensures.root c.in_ok-aim.ensures.goals in
    record {
      states = one_done (state_of content) at c.loop-store.branches.items c.push.new.self.items c.in_graph.result c.in-Some.store
          (into_iter_items c.loop-store.store-iterator) (into_iter_items c.next.new.self) (map at all) c.in-Some.ensures.steps.0 c.in_ok-push.ensures.items same
          c.loop-store.invariant.states;
      may = later_have may c.in-Some.store (into_iter_items c.next.new.self) (subst (λ (stores : List g.row.S.Denot). All may stores) c.in-Some.ensures.steps.0 c.loop-store.invariant.may);
    }
