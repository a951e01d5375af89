use Rattle.std.proofs.Common.{map, take}
use Rattle.cu_types.proofs.reader.Reader.add_all.Given as goal
use Rattle.cu_types.specs.Inside.Reading.{AllRead, IsReader, shapes}
use Rattle.cu_types.specs.Inside.Replacing.{replaced_by}
use Rattle.cu_types.specs.Table.{shape_of, trees}
use Rattle.cu_types.specs.Types.{apply}

-- the types so far were added
abbrev pub invariant-loop-node : goal.invariant-loop-node
invariant-loop-node l = record {
  reader : IsReader l.self;
  read : AllRead (shapes l.initial.self) (shapes l.self)
      (map (apply (replaced_by (shapes l.initial.self) l.by)) (take l.node-index (trees (map shape_of l.types)))) l.places.items;
}
