use Rattle.std.proofs.Common.{length, slice_index, subst}
use Rattle.cu_kernel.specs.TypeExpr.{TypeExpr}
use Rattle.cu_types.proofs.SynonymLemmas.{found_full, found_within, node_arguments, node_expanded, variable_expanded}
use Rattle.cu_types.proofs.reader.Reader.expand_node.Goals as goal
use Rattle.cu_types.specs.Inside.Reading.{Reads, shapes}
use Rattle.cu_types.specs.Table.{at, trees}

pub places_at-requires : goal.places_at-requires
places_at-requires c =
    (node_arguments (length c.args.places.now) c.args.node.now c.in-Applied.head c.in-Applied.arguments c.as_slice.result.now
    c.requires.may c.in-Applied.is c.as_slice.ensures.value).1

pub expand_head-requires-clause-full : goal.expand_head-requires-clause-full
expand_head-requires-clause-full c =
    found_full c.in-Applied.head c.args.places.now c.as_slice.result.now c.in_ok-found-in-Applied.found.items
    (node_arguments (length c.args.places.now) c.args.node.now c.in-Applied.head c.in-Applied.arguments c.as_slice.result.now
    c.requires.may c.in-Applied.is c.as_slice.ensures.value).0 c.in_ok-found-in-Applied.ensures

pub expand_head-requires-clause-within : goal.expand_head-requires-clause-within
expand_head-requires-clause-within c =
    found_within c.args.places.now c.as_slice.result.now c.in_ok-found-in-Applied.found.items (length (shapes c.args.self.now))
    (node_arguments (length c.args.places.now) c.args.node.now c.in-Applied.head c.in-Applied.arguments c.as_slice.result.now
    c.requires.may c.in-Applied.is c.as_slice.ensures.value).1 c.requires.within c.in_ok-found-in-Applied.ensures

pub returns-in_ok-place-in-Variable-clause-read : goal.returns-in_ok-place-in-Variable-clause-read
returns-in_ok-place-in-Variable-clause-read c =
    subst (λ (t : TypeExpr). Reads (shapes c.args.self.now) (shapes c.variable.new.self) t c.in_ok-place-in-Variable.place)
    (variable_expanded (at c.args.synonyms.now) c.args.node.now c.in-Variable.x
    (λ a. at (trees (shapes c.args.self.now)) (slice_index c.args.places.now a)) c.in-Variable.is)
    c.in_ok-place-in-Variable.ensures.read

pub returns-in_ok-place-in-Applied-clause-read : goal.returns-in_ok-place-in-Applied-clause-read
returns-in_ok-place-in-Applied-clause-read c =
    subst (λ (t : TypeExpr). Reads (shapes c.args.self.now) (shapes c.expand_head.new.self) t c.in_ok-place-in-Applied.place)
    (node_expanded (at c.args.synonyms.now) c.args.node.now c.in-Applied.head c.in-Applied.arguments
    (at (trees (shapes c.args.self.now))) c.args.places.now c.as_slice.result.now c.in_ok-found-in-Applied.found.items c.in-Applied.is
    c.as_slice.ensures.value c.in_ok-found-in-Applied.ensures)
    c.in_ok-place-in-Applied.ensures.read
