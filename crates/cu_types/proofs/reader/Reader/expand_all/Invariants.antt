use Rattle.std.proofs.Common.{map, take}
use Rattle.cu_types.proofs.reader.Reader.expand_all.Given as goal
use Rattle.cu_types.specs.Inside.Reading.{AllRead, IsReader, shapes}
use Rattle.cu_types.specs.Synonyms.{expanded_by}
use Rattle.cu_types.specs.Table.{at, shape_of, trees}

-- the types so far were added
abbrev pub invariant-loop-node : goal.invariant-loop-node
invariant-loop-node l = record {
  reader : IsReader l.self;
  read : AllRead (shapes l.initial.self) (shapes l.self)
      (map (expanded_by (at l.synonyms)) (take l.node-index (trees (map shape_of l.types)))) l.places.items;
}
