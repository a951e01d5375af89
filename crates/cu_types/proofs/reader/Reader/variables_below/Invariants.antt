use Rattle.cu_types.proofs.reader.Reader.variables_below.Given as goal
use Rattle.cu_types.specs.BuiltInTypes.{variables_from}
use Rattle.cu_types.specs.Inside.Reading.{AllRead, IsReader, shapes}

abbrev pub invariant-loop-x : goal.invariant-loop-x
invariant-loop-x l = record {
  reader : IsReader l.self;
  read : AllRead (shapes l.initial.self) (shapes l.self) (variables_from 0 l.x) l.places.items;
}
