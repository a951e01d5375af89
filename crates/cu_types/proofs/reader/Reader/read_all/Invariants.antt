use Rattle.std.proofs.Common.{map, take}
use Rattle.cu_types.proofs.reader.Reader.read_all.Given as goal
use Rattle.cu_types.specs.Inside.Reading.{IsReader, Stand, shapes}
use Rattle.cu_types.specs.Meaning.{equation_of}

abbrev pub invariant-loop-equation : goal.invariant-loop-equation
invariant-loop-equation l = record {
  reader : IsReader l.self;
  stand : Stand (shapes l.self) l.pairs.items (map equation_of (take l.equation-index l.equations));
}
