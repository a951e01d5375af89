use Rattle.std.proofs.Common.{◌≡◌, length, map, nat_eq, subst, arith}
use Rattle.indexmap.specs.IndexMap.{get}
use Rattle.cu_types.proofs.NumberingLemmas.{full_at, goes_left, node_in, node_there, places_within, split, variable_not_left}
use Rattle.cu_types.proofs.numbering.Numbering.leave.Goals as goal
use Rattle.cu_types.specs.Inside.Numbering.{Joins}
use Rattle.cu_types.specs.Inside.Reading.{shapes}
use Rattle.cu_types.specs.Table.{IsFull, shape_of}
use Rattle.cu_types.specs.declared.node.Node.TheVariants as node

pub bounds-types-place : goal.bounds-types-place
bounds-types-place c = node_in c.args.types.now c.args.place c.requires.goes.3.within.0

pub returns-in-Variable : goal.returns-in-Variable
returns-in-Variable c = λ root final tasks w.
    absurd (variable_not_left (map shape_of c.args.types.now) root final (get nat_eq c.args.self.now.made.variables)
    (shapes c.args.self.now.made) (get nat_eq c.args.self.now.known) c.args.self.now.variables.keys c.args.self.now.places.items tasks
    c.args.place c.in-Variable.field-0
    (node_there c.args.types.now c.args.place c.index-types-place.result (node.Variable c.in-Variable.field-0) w.within.0
    c.index-types-place.is c.in-Variable.is) w)

pub join-requires-clause-reader : goal.join-requires-clause-reader
join-requires-clause-reader c = c.requires.goes.3.variables

pub join-requires-clause-count : goal.join-requires-clause-count
join-requires-clause-count c =
    let w = c.requires.goes.3 in
    let parts = split (map shape_of c.args.types.now) c.requires.goes.0 c.requires.goes.1 (get nat_eq c.args.self.now.made.variables)
    (shapes c.args.self.now.made) (get nat_eq c.args.self.now.known) c.args.self.now.variables.keys c.args.self.now.places.items
    c.requires.goes.2 c.args.place c.in-Applied.head c.in-Applied.arguments.items
    (node_there c.args.types.now c.args.place c.index-types-place.result (node.Applied c.in-Applied.head c.in-Applied.arguments) w.within.0
    c.index-types-place.is c.in-Applied.is) w in
    omega (arith, parts.few, c.len.ensures, c.in-Applied.arguments.ok.0)

pub join-requires-clause-full : goal.join-requires-clause-full
join-requires-clause-full c =
    let w = c.requires.goes.3 in
    let same : length c.in-Applied.arguments.items ≡ c.len.result = omega (arith, c.len.ensures, c.in-Applied.arguments.ok.0) in
    subst (IsFull c.in-Applied.head) same
    (full_at (map shape_of c.args.types.now) c.args.place c.in-Applied.head c.in-Applied.arguments.items c.requires.table
    (node_there c.args.types.now c.args.place c.index-types-place.result (node.Applied c.in-Applied.head c.in-Applied.arguments) w.within.0
    c.index-types-place.is c.in-Applied.is))

pub join-requires-clause-within : goal.join-requires-clause-within
join-requires-clause-within c =
    places_within (map shape_of c.args.types.now) c.requires.goes.0 c.requires.goes.1 (get nat_eq c.args.self.now.made.variables)
    (shapes c.args.self.now.made) (get nat_eq c.args.self.now.known) c.args.self.now.variables.keys c.args.self.now.places.items
    _ c.requires.goes.3

pub returns-in_ok-join-in-Applied : goal.returns-in_ok-join-in-Applied
returns-in_ok-join-in-Applied c = λ root final tasks w.
    let same : c.len.result ≡ length c.in-Applied.arguments.items = omega (arith, c.len.ensures, c.in-Applied.arguments.ok.0) in
    let joins : Joins c.args.self.now c.join.new.self c.args.place c.in-Applied.head (length c.in-Applied.arguments.items) =
    subst (Joins c.args.self.now c.join.new.self c.args.place c.in-Applied.head) same c.in_ok-join-in-Applied.ensures in
    goes_left (map shape_of c.args.types.now) root final (get nat_eq c.args.self.now.made.variables)
    (get nat_eq c.join.new.self.made.variables) (shapes c.args.self.now.made) (shapes c.join.new.self.made)
    (get nat_eq c.args.self.now.known) (get nat_eq c.join.new.self.known) c.args.self.now.variables.keys c.join.new.self.variables.keys
    c.args.self.now.places.items c.join.new.self.places.items tasks c.args.place joins.pushes.place c.in-Applied.head
    c.in-Applied.arguments.items c.requires.table
    (node_there c.args.types.now c.args.place c.index-types-place.result (node.Applied c.in-Applied.head c.in-Applied.arguments) w.within.0
    c.index-types-place.is c.in-Applied.is)
    joins.pushes.reader joins.pushes.reads joins.pushes.pushed joins.known joins.keys w
