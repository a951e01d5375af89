use Rattle.std.proofs.Common.{◌≡◌, map, take}
use Rattle.cu_fixity.specs.Parts.{piece_of}
use Rattle.cu_fixity.proofs.resolving.pieces.Given as goal

abbrev pub invariant-loop-part : goal.invariant-loop-part
invariant-loop-part g l = l.pieces.items ≡ map (piece_of l.table) (take l.part-index l.parts)
