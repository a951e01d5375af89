use Rattle.std.proofs.Common.{ℕ, List, length, map, slice_get, slice_index, sym, ap, subst, ◌≡◌, ◌∙◌}
use Rattle.cu_types.proofs.Adding.{applied_read, found_within, full_found, node_applied}
use Rattle.cu_types.specs.Inside.Reading.{Reads, shapes}
use Rattle.cu_types.specs.Inside.Replacing.{replaced_by}
use Rattle.cu_types.specs.Table.{shape_of, tree_over}
use Rattle.cu_types.specs.Types.{apply}
use Rattle.cu_types.specs.declared.node.Node.{Node}
use Rattle.cu_types.proofs.reader.Reader.add_node.Goals as goal

pub replaced-requires-clause-reader : goal.replaced-requires-clause-reader
replaced-requires-clause-reader c = c.requires.reader

pub replaced-requires-clause-stands : goal.replaced-requires-clause-stands
replaced-requires-clause-stands c = c.requires.stands

pub places_at-requires : goal.places_at-requires
places_at-requires c = λ k a e.
    (node_applied (length c.args.places.now) c.args.node.now c.in-Applied.head c.in-Applied.arguments c.in-Applied.is c.requires.may).1 a k
    (ap (λ (xs : List ℕ). slice_get xs k) (sym c.as_slice.ensures.value) ∙ e)

pub apply-requires-clause-reader : goal.apply-requires-clause-reader
apply-requires-clause-reader c = c.requires.reader

pub apply-requires-clause-full : goal.apply-requires-clause-full
apply-requires-clause-full c =
    full_found c.in-Applied.head (λ a. slice_index c.args.places.now a) c.in_ok-found-in-Applied.found.items c.as_slice.result.now
    c.in-Applied.arguments.items c.in_ok-found-in-Applied.ensures c.as_slice.ensures.value
    (node_applied (length c.args.places.now) c.args.node.now c.in-Applied.head c.in-Applied.arguments c.in-Applied.is c.requires.may).0

pub apply-requires-clause-within : goal.apply-requires-clause-within
apply-requires-clause-within c =
    found_within (length (shapes c.args.self.now)) c.args.places.now c.in_ok-found-in-Applied.found.items c.as_slice.result.now
    c.in-Applied.arguments.items c.in_ok-found-in-Applied.ensures c.as_slice.ensures.value
    (node_applied (length c.args.places.now) c.args.node.now c.in-Applied.head c.in-Applied.arguments c.in-Applied.is c.requires.may).1
    c.requires.within

pub returns-in_ok-place-in-Variable-clause-reader : goal.returns-in_ok-place-in-Variable-clause-reader
returns-in_ok-place-in-Variable-clause-reader c = c.in_ok-place-in-Variable.ensures.reader

pub returns-in_ok-place-in-Variable-clause-read : goal.returns-in_ok-place-in-Variable-clause-read
returns-in_ok-place-in-Variable-clause-read c = λ tree are.
    subst (λ (x : Node). Reads (shapes c.args.self.now) (shapes c.replaced.new.self)
    (apply (replaced_by (shapes c.args.self.now) c.args.by) (tree_over tree (shape_of x))) c.in_ok-place-in-Variable.place)
    (sym c.in-Variable.is) c.in_ok-place-in-Variable.ensures.read

pub returns-in_ok-place-in-Applied-clause-reader : goal.returns-in_ok-place-in-Applied-clause-reader
returns-in_ok-place-in-Applied-clause-reader c = c.in_ok-place-in-Applied.ensures.reader

pub returns-in_ok-place-in-Applied-clause-read : goal.returns-in_ok-place-in-Applied-clause-read
returns-in_ok-place-in-Applied-clause-read c = λ tree are.
    subst (λ (x : Node). Reads (shapes c.args.self.now) (shapes c.apply.new.self)
    (apply (replaced_by (shapes c.args.self.now) c.args.by) (tree_over tree (shape_of x))) c.in_ok-place-in-Applied.place)
    (sym c.in-Applied.is)
    (applied_read (shapes c.args.self.now) (shapes c.apply.new.self) (replaced_by (shapes c.args.self.now) c.args.by) c.args.places.now
    c.in_ok-found-in-Applied.found.items c.in-Applied.arguments.items tree c.in-Applied.head c.in_ok-place-in-Applied.place
    (node_applied (length c.args.places.now) c.args.node.now c.in-Applied.head c.in-Applied.arguments c.in-Applied.is c.requires.may)
    (subst (λ (xs : List ℕ). c.in_ok-found-in-Applied.found.items ≡ map (λ a. slice_index c.args.places.now a) xs) c.as_slice.ensures.value
    c.in_ok-found-in-Applied.ensures) are c.in_ok-place-in-Applied.ensures.read)
