use Rattle.std.proofs.Common.{◌≡◌, ◌++◌, ◌∷◌, ℕ, List, Option, map, nat_eq, reverse, sym, ap, ◌∙◌, subst}
use Rattle.indexmap.specs.IndexMap.{get}
use Rattle.cu_types.proofs.NumberingLemmas.{entered_nearer, goes_known, goes_opened, goes_variable, node_in, node_there, opened_nearer}
use Rattle.cu_types.proofs.numbering.Numbering.enter.Goals as goal
use Rattle.cu_types.specs.Inside.Numbering.{IsNumbering}
use Rattle.cu_types.specs.Inside.Reading.{shapes}
use Rattle.cu_types.specs.Table.{shape_of, trees}
use Rattle.cu_types.specs.declared.node.Node.TheVariants as node
use Rattle.cu_types.specs.declared.order.Task.TheVariants as task

pub returns-in-Some : goal.returns-in-Some
returns-in-Some c = λ root final w. record {
  goes = goes_known (map shape_of c.args.types.now) root final (get nat_eq c.args.self.now.made.variables) (shapes c.args.self.now.made)
      (get nat_eq c.args.self.now.known) c.args.self.now.variables.keys c.args.self.now.places.items c.push.new.self.items
      (reverse c.args.tasks.now.items) c.args.place c.in-Some.made.now (sym c.in-Some.ensures.value) c.in_ok-push.ensures.items w;
  nearer = entered_nearer (trees (map shape_of c.args.types.now)) c.args.place (reverse c.args.tasks.now.items);
}

pub bounds-types-place : goal.bounds-types-place
bounds-types-place c = node_in c.args.types.now c.args.place c.requires.goes.2.within.0

pub variable-requires : goal.variable-requires
variable-requires c = c.requires.goes.2.variables

pub returns-in_ok-variable-in-Variable : goal.returns-in_ok-variable-in-Variable
returns-in_ok-variable-in-Variable c = λ root final w.
    let ss = map shape_of c.args.types.now in
    let made = c.in_ok-variable-in-Variable.ensures.pushes in
    record {
      goes = subst (λ (f : ℕ → Option ℕ). IsNumbering (map shape_of c.args.types.now) root final
          (get nat_eq c.variable.new.self.made.variables) (shapes c.variable.new.self.made) f c.variable.new.self.variables.keys
          c.variable.new.self.places.items (reverse c.args.tasks.now.items))
          (ap (get nat_eq) (sym c.in_ok-variable-in-Variable.ensures.known))
          (goes_variable ss root final (get nat_eq c.args.self.now.made.variables) (get nat_eq c.variable.new.self.made.variables)
          (shapes c.args.self.now.made) (shapes c.variable.new.self.made) (get nat_eq c.args.self.now.known)
          c.args.self.now.variables.keys c.variable.new.self.variables.keys c.args.self.now.places.items
          c.variable.new.self.places.items (reverse c.args.tasks.now.items) c.args.place c.in-Variable.x made.place c.requires.table
          (node_there c.args.types.now c.args.place c.index-types-place.result (node.Variable c.in-Variable.x) w.within.0
          c.index-types-place.is c.in-Variable.is)
          made.reader made.reads made.pushed c.in_ok-variable-in-Variable.ensures.keys w);
      nearer = entered_nearer (trees ss) c.args.place (reverse c.args.tasks.now.items);
    }

pub returns-in_ok-push_tasks-in-Applied : goal.returns-in_ok-push_tasks-in-Applied
returns-in_ok-push_tasks-in-Applied c = λ root final w.
    let is = node_there c.args.types.now c.args.place c.index-types-place.result (node.Applied c.in-Applied.field-0 c.in-Applied.arguments)
    w.within.0 c.index-types-place.is c.in-Applied.is in
    let pushed : reverse c.push_tasks.new.tasks.items ≡ map (λ a. task.Enter a) c.in-Applied.arguments.items ++ task.Leave c.args.place ∷ reverse c.args.tasks.now.items =
    c.in_ok-push_tasks-in-Applied.ensures
    ∙ ap (λ (qs : List ℕ). map (λ a. task.Enter a) qs ++ task.Leave c.args.place ∷ reverse c.args.tasks.now.items) c.as_slice.ensures.value in
    record {
      goes = goes_opened (map shape_of c.args.types.now) root final (get nat_eq c.args.self.now.made.variables) (shapes c.args.self.now.made)
          (get nat_eq c.args.self.now.known) c.args.self.now.variables.keys c.args.self.now.places.items (reverse c.args.tasks.now.items)
          (reverse c.push_tasks.new.tasks.items) c.args.place c.in-Applied.field-0 c.in-Applied.arguments.items c.requires.table is pushed w;
      nearer = opened_nearer (map shape_of c.args.types.now) (reverse c.args.tasks.now.items) (reverse c.push_tasks.new.tasks.items)
          c.args.place c.in-Applied.field-0 c.in-Applied.arguments.items c.requires.table is pushed;
    }
