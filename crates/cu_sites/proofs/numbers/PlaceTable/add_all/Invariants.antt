use Rattle.std.proofs.Common.{◌++◌, List, take}
use Rattle.cu_translation.specs.declared.position.Position.{Position}
use Rattle.cu_sites.proofs.numbers.PlaceTable.add_all.Given as goal
use Rattle.cu_sites.specs.Numbered.{IsPlaceTable}

abbrev pub invariant-loop-place : goal.invariant-loop-place
invariant-loop-place l = (before : List Position) → IsPlaceTable before l.fn.self → IsPlaceTable (before ++ take l.place-index l.places) l.self
