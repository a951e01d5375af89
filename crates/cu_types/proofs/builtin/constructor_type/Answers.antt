use Rattle.std.proofs.Common.{map, ◌∙◌}
use Rattle.cu_kernel.specs.TypesOf.{type_of}
use Rattle.cu_types.proofs.BuiltInLemmas.{constructor_read, fields_meant, fields_within}
use Rattle.cu_types.proofs.builtin.constructor_type.Goals as goal
use Rattle.cu_types.specs.BuiltInTypes.{data_type, variables_from}
use Rattle.cu_types.specs.Inside.Reading.{shapes}
use Rattle.cu_types.specs.Synonyms.{expanded_by}
use Rattle.cu_types.specs.Table.{at}

pub functions-requires-clause-arguments : goal.functions-requires-clause-arguments
functions-requires-clause-arguments c =
    fields_within (shapes c.new-reader.result) (shapes c.expand_terms.new.self) (shapes c.parameterized.new.self)
    (map (λ t. expanded_by (at c.args.synonyms.now) (type_of t)) c.as_slice.result.now)
    (data_type c.args.of_type.0 (variables_from 0 c.args.arity)) c.in_ok-places.places.items c.in_ok-value.value
    c.in_ok-places.ensures.read c.in_ok-value.ensures.read

pub functions-requires-clause-value : goal.functions-requires-clause-value
functions-requires-clause-value c = c.in_ok-value.ensures.read.within

pub returns : goal.returns
returns c =
    c.into_shared.ensures
    ∙ constructor_read (shapes c.new-reader.result) (shapes c.expand_terms.new.self) (shapes c.parameterized.new.self) (shapes c.functions.new.self)
    (map (λ t. expanded_by (at c.args.synonyms.now) (type_of t)) c.as_slice.result.now)
    (data_type c.args.of_type.0 (variables_from 0 c.args.arity)) c.in_ok-places.places.items c.in_ok-value.value c.in_ok-place.place
    c.in_ok-places.ensures.read c.in_ok-value.ensures.read c.in_ok-place.ensures.read
    ∙ fields_meant (at c.args.synonyms.now) c.args.of_type.0 c.args.arity c.args.constructor.now c.as_slice.result.now c.as_slice.ensures.value
