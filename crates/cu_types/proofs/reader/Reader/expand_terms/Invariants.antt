use Rattle.std.proofs.Common.{map, take}
use Rattle.cu_kernel.specs.TypesOf.{type_of}
use Rattle.cu_types.proofs.reader.Reader.expand_terms.Given as goal
use Rattle.cu_types.specs.Inside.Reading.{AllRead, IsReader, shapes}
use Rattle.cu_types.specs.Synonyms.{expanded_by}
use Rattle.cu_types.specs.Table.{at}

abbrev pub invariant-loop-term : goal.invariant-loop-term
invariant-loop-term l = record {
  reader : IsReader l.self;
  read : AllRead (shapes l.initial.self) (shapes l.self)
      (map (λ t. expanded_by (at l.synonyms) (type_of t)) (take l.term-index l.terms)) l.places.items;
}
