use Rattle.std.proofs.Common.{◌≡◌, ℕ, None, Some, cond, length, map, nat_eq, refl, sym, ap, ◌∙◌, arith}
use Rattle.indexmap.specs.IndexMap.{get}
use Rattle.cu_kernel.specs.TypeExpr as type
use Rattle.cu_types.proofs.ReadTypes.{reads_known, reads_pushed, variables_added}
use Rattle.cu_types.proofs.TableLemmas.{mapped_length}
use Rattle.cu_types.proofs.Unfolding.{pushed_shapes}
use Rattle.cu_types.proofs.reader.Reader.variable.Goals as goal
use Rattle.cu_types.specs.Inside.Reading.{shapes}
use Rattle.cu_types.specs.Table as shape
use Rattle.cu_types.specs.Table.{shape_of}
use Rattle.cu_types.specs.declared.node.Node.TheVariants as node

pub returns-in-Some-clause-read : goal.returns-in-Some-clause-read
returns-in-Some-clause-read c =
    reads_known (get nat_eq c.args.self.now.variables) (shapes c.args.self.now) c.args.x c.in-Some.place.now c.requires
    (sym c.in-Some.ensures.value)

pub returns-clause-reader : goal.returns-clause-reader
returns-clause-reader c =
    let here : c.len-place.result ≡ length (map shape_of c.args.self.now.nodes.items) =
    omega (arith, c.len-place.ensures, mapped_length shape_of c.args.self.now.nodes.items, c.args.self.now.nodes.ok.0) in
    let none : get nat_eq c.args.self.now.variables c.args.x ≡ None = sym c.in_default.ensures.value in
    variables_added (get nat_eq c.args.self.now.variables) (get nat_eq c.insert.new.self) (shapes c.args.self.now)
    (map shape_of c.push.new.self.items) c.args.x c.requires none
    (λ y. c.in_ok-insert.ensures.updates.0 y
    ∙ ap (λ (n : ℕ). cond (nat_eq c.args.x y) (Some n) (get nat_eq c.args.self.now.variables y)) here)
    (pushed_shapes c.args.self.now.nodes.items c.push.new.self.items (node.Variable c.args.x) (shape.Variable c.args.x)
    c.in_ok-push.ensures.items refl)

pub returns-clause-read : goal.returns-clause-read
returns-clause-read c =
    let here : c.len-place.result ≡ length (map shape_of c.args.self.now.nodes.items) =
    omega (arith, c.len-place.ensures, mapped_length shape_of c.args.self.now.nodes.items, c.args.self.now.nodes.ok.0) in
    reads_pushed (shapes c.args.self.now) (map shape_of c.push.new.self.items) (shape.Variable c.args.x) (type.Variable c.args.x)
    c.len-place.result
    (pushed_shapes c.args.self.now.nodes.items c.push.new.self.items (node.Variable c.args.x) (shape.Variable c.args.x)
    c.in_ok-push.ensures.items refl) here refl
