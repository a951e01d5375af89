use Rattle.std.proofs.Common.{None, refl, subst, sym}
use Rattle.std.specs.List.{All}
use Rattle.cu_syntax.specs.Owners.{NameIsOf}
use Rattle.cu_translation.specs.Sites.{with}
use Rattle.cu_uses.specs.Gathered.{names_meaning}
use Rattle.cu_locals.specs.Text.{text}
use Rattle.cu_sites.proofs.TopLemmas.{at_top, goal_stands, top}
use Rattle.cu_sites.proofs.sites.Sites.of_goal.Goals as goal

pub returns : goal.returns
returns c owner names differ of =
    let t = text owner names differ in
    let all = subst (All (NameIsOf owner names)) (sym c.as_slice.ensures.value) (c.in_ok-free.ensures.owned owner names of) in
    let entered = c.in_ok-spot.ensures t top (at_top t c.new-found.result (record { function = None; depth = 0; scope = 0 }) refl) all in
    goal_stands t c.new-found.result c.with.new.self c.expression-2.new.self c.in_ok-spot.spot c.args.goal.now c.in_ok-free.free.items c.as_slice.result.now c.expression.result c.new-found.ensures c.as_slice.ensures.value
    (c.in_ok-free.ensures.meaning names) (c.expression.ensures.meaning names) entered
    (c.in_ok-expression.ensures t (with (names_meaning names c.as_slice.result.now) top) entered.at (c.expression.ensures.owned owner names of))
