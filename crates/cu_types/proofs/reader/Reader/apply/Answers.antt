use Rattle.std.proofs.Common.{◌≡◌, ℕ, List, Some, length, map, nat_eq, slice_get, refl, subst, arith}
use Rattle.indexmap.specs.IndexMap.{get}
use Rattle.cu_types.proofs.ReadTypes.{reads_applied, reads_pushed, variables_applied}
use Rattle.cu_types.proofs.TableLemmas.{mapped_length}
use Rattle.cu_types.proofs.Unfolding.{pushed_shapes}
use Rattle.cu_types.proofs.reader.Reader.apply.Goals as goal
use Rattle.cu_types.specs.Inside.Reading.{shapes}
use Rattle.cu_types.specs.Table as shape
use Rattle.cu_types.specs.Table.{at, built, shape_of, trees}
use Rattle.cu_types.specs.declared.node.Node.TheVariants as node

pub returns-in-Some-clause-read : goal.returns-in-Some-clause-read
returns-in-Some-clause-read c =
    reads_applied (shapes c.args.self.now) c.args.head c.args.arguments.items c.in-Some.place c.requires.reader.table
    (subst (λ (ps : List ℕ). slice_get (shapes c.args.self.now) c.in-Some.place ≡ Some (shape.Applied c.args.head ps))
    c.as_slice-2.ensures.value c.in-Some.ensures)

pub returns-clause-reader : goal.returns-clause-reader
returns-clause-reader c =
    variables_applied (get nat_eq c.args.self.now.variables) (shapes c.args.self.now) (map shape_of c.push.new.self.items) c.args.head
    c.args.arguments.items c.requires.reader c.requires.full c.requires.within
    (pushed_shapes c.args.self.now.nodes.items c.push.new.self.items (node.Applied c.args.head c.args.arguments)
    (shape.Applied c.args.head c.args.arguments.items) c.in_ok-push.ensures.items refl)

pub returns-clause-read : goal.returns-clause-read
returns-clause-read c =
    let here : c.len-place.result ≡ length (map shape_of c.args.self.now.nodes.items) =
    omega (arith, c.len-place.ensures, mapped_length shape_of c.args.self.now.nodes.items, c.args.self.now.nodes.ok.0) in
    reads_pushed (shapes c.args.self.now) (map shape_of c.push.new.self.items) (shape.Applied c.args.head c.args.arguments.items)
    (built c.args.head (map (at (trees (shapes c.args.self.now))) c.args.arguments.items)) c.len-place.result
    (pushed_shapes c.args.self.now.nodes.items c.push.new.self.items (node.Applied c.args.head c.args.arguments)
    (shape.Applied c.args.head c.args.arguments.items) c.in_ok-push.ensures.items refl) here refl
