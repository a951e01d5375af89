use Rattle.std.proofs.Common.{◌≡◌, List, Some, length, refl, slice_get, subst}
use Rattle.std.proofs.lemmas.Option.{slice_get_read}
use Rattle.cu_types.proofs.ReadTypes.{place_has}
use Rattle.cu_types.proofs.reader.Reader.place_of.Goals as goal
use Rattle.cu_types.specs.declared.node.Node.{Node}

pub returns-then-has_arguments : goal.returns-then-has_arguments
returns-then-has_arguments c =
    let found = c.in_ok-node.ensures.lookup in
    let nodes = c.deref.result.now in
    place_has c.args.self.now.nodes.items c.in_ok-place.field-0.now c.in_ok-node.node.now c.args.head c.args.arguments.now
    (subst (λ (xs : List Node). slice_get xs c.in_ok-place.field-0.now ≡ Some c.in_ok-node.node.now) c.deref.ensures.value
    (slice_get_read nodes (length nodes) c.in_ok-place.field-0.now c.in_ok-node.node.now refl found.3.0 found.1))
    (c.has_arguments.ensures.0 c.if-has_arguments.true)
