use Rattle.std.proofs.Common.{◌≡◌, ◌<◌, ◌++◌, ◌∷◌, List, [], length, map, nat_eq, reverse, sym, ap, ◌∙◌, subst, arith}
use Rattle.std.proofs.lemmas.List.{get_or_read}
use Rattle.indexmap.specs.IndexMap.{get}
use Rattle.cu_types.proofs.NumberingLemmas.{goes_ends, goes_starts, no_tasks, tasks_popped}
use Rattle.cu_types.proofs.numbering.numbered.Goals as goal
use Rattle.cu_types.specs.Inside.Numbering.{Goes, efforts}
use Rattle.cu_types.specs.Inside.Reading.{shapes}
use Rattle.cu_types.specs.Numbered.{all_noted, variables_in}
use Rattle.cu_types.specs.Table.{at, shape_of, trees}
use Rattle.cu_types.specs.declared.order.Task.{Task}
use Rattle.cu_types.specs.declared.order.Task.TheVariants as task

pub loop-task-init : goal.loop-task-init
loop-task-init c =
    goes_starts (map shape_of c.args.types.now) c.args.place (get nat_eq c.new-walk.result.made.variables) (shapes c.new-walk.result.made)
    (get nat_eq c.new-walk.result.known) c.new-walk.result.variables.keys c.new-walk.result.places.items (reverse c.push.new.self.items)
    c.requires.within c.new-walk.ensures.made c.new-walk.ensures.known c.new-walk.ensures.variables c.new-walk.ensures.places
    (ap reverse (c.in_ok-push.ensures.items ∙ ap (λ (xs : List Task). xs ++ task.Enter c.args.place ∷ []) c.new-tasks.ensures.items))

pub step-requires-clause-goes : goal.step-requires-clause-goes
step-requires-clause-goes c = (
  c.args.place,
  all_noted [] (variables_in (at (trees (map shape_of c.args.types.now)) c.args.place)),
  subst (Goes (map shape_of c.args.types.now) c.args.place
      (all_noted [] (variables_in (at (trees (map shape_of c.args.types.now)) c.args.place))) c.loop-task.walk)
      (tasks_popped c.loop-task.tasks.items c.pop.new.self.items c.in-Some.task c.in-Some.ensures.items) c.loop-task.invariant,
)

pub loop-task-preserved : goal.loop-task-preserved
loop-task-preserved c =
    (c.in_ok-step.ensures c.args.place (all_noted [] (variables_in (at (trees (map shape_of c.args.types.now)) c.args.place)))
    (subst (Goes (map shape_of c.args.types.now) c.args.place
    (all_noted [] (variables_in (at (trees (map shape_of c.args.types.now)) c.args.place))) c.loop-task.walk)
    (tasks_popped c.loop-task.tasks.items c.pop.new.self.items c.in-Some.task c.in-Some.ensures.items) c.loop-task.invariant)).goes

pub loop-task-smaller : goal.loop-task-smaller
loop-task-smaller c =
    let ts = trees (map shape_of c.args.types.now) in
    let near : efforts ts (reverse c.step.new.tasks.items) < efforts ts (c.in-Some.task ∷ reverse c.pop.new.self.items) =
    (c.in_ok-step.ensures c.args.place (all_noted [] (variables_in (at (trees (map shape_of c.args.types.now)) c.args.place)))
    (subst (Goes (map shape_of c.args.types.now) c.args.place
    (all_noted [] (variables_in (at (trees (map shape_of c.args.types.now)) c.args.place))) c.loop-task.walk)
    (tasks_popped c.loop-task.tasks.items c.pop.new.self.items c.in-Some.task c.in-Some.ensures.items) c.loop-task.invariant)).nearer in
    subst (λ (xs : List Task). efforts (trees (map shape_of c.args.types.now)) (reverse c.step.new.tasks.items)
    < efforts (trees (map shape_of c.args.types.now)) xs)
    (sym (tasks_popped c.loop-task.tasks.items c.pop.new.self.items c.in-Some.task c.in-Some.ensures.items)) near

pub index-root-requires : goal.index-root-requires
index-root-requires c =
    let none : c.loop-task.tasks.items ≡ [] =
    no_tasks c.loop-task.tasks.items (omega (arith, c.loop-task.tasks.ok.0, c.in_default.ensures.cases.0)) in
    let ends = goes_ends (map shape_of c.args.types.now) c.args.place (get nat_eq c.loop-task.walk.made.variables) (shapes c.loop-task.walk.made)
    (get nat_eq c.loop-task.walk.known) c.loop-task.walk.variables.keys c.loop-task.walk.places.items
    (subst (λ (xs : List Task). Goes (map shape_of c.args.types.now) c.args.place
    (all_noted [] (variables_in (at (trees (map shape_of c.args.types.now)) c.args.place))) c.loop-task.walk (reverse xs)) none c.loop-task.invariant) in
    omega (arith, ends.0, c.loop-task.walk.places.ok.0)

pub into_shared-requires-clause-reader : goal.into_shared-requires-clause-reader
into_shared-requires-clause-reader c = c.loop-task.invariant.variables

pub into_shared-requires-clause-within : goal.into_shared-requires-clause-within
into_shared-requires-clause-within c =
    let none : c.loop-task.tasks.items ≡ [] =
    no_tasks c.loop-task.tasks.items (omega (arith, c.loop-task.tasks.ok.0, c.in_default.ensures.cases.0)) in
    let ends = goes_ends (map shape_of c.args.types.now) c.args.place (get nat_eq c.loop-task.walk.made.variables) (shapes c.loop-task.walk.made)
    (get nat_eq c.loop-task.walk.known) c.loop-task.walk.variables.keys c.loop-task.walk.places.items
    (subst (λ (xs : List Task). Goes (map shape_of c.args.types.now) c.args.place
    (all_noted [] (variables_in (at (trees (map shape_of c.args.types.now)) c.args.place))) c.loop-task.walk (reverse xs)) none c.loop-task.invariant) in
    subst (λ p. p < length (shapes c.loop-task.walk.made))
    (sym (get_or_read c.loop-task.walk.places.items 0 c.index-root.result.now ends.0 c.index-root.ensures 0)) ends.1

pub returns : goal.returns
returns c =
    let none : c.loop-task.tasks.items ≡ [] =
    no_tasks c.loop-task.tasks.items (omega (arith, c.loop-task.tasks.ok.0, c.in_default.ensures.cases.0)) in
    let ends = goes_ends (map shape_of c.args.types.now) c.args.place (get nat_eq c.loop-task.walk.made.variables) (shapes c.loop-task.walk.made)
    (get nat_eq c.loop-task.walk.known) c.loop-task.walk.variables.keys c.loop-task.walk.places.items
    (subst (λ (xs : List Task). Goes (map shape_of c.args.types.now) c.args.place
    (all_noted [] (variables_in (at (trees (map shape_of c.args.types.now)) c.args.place))) c.loop-task.walk (reverse xs)) none c.loop-task.invariant) in
    c.into_shared.ensures
    ∙ ap (at (trees (shapes c.loop-task.walk.made)))
    (get_or_read c.loop-task.walk.places.items 0 c.index-root.result.now ends.0 c.index-root.ensures 0)
    ∙ ends.2
