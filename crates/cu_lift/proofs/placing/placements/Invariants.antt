use Rattle.std.proofs.Common.{◌≡◌, length, map}
use Rattle.cu_kernel.specs.LocalKernelOf.{top_function_meaning}
use Rattle.cu_lift.specs.Inside.LiftedPlaces.{ArePlaced}
use Rattle.cu_names.specs.Texts.{Extends}
use Rattle.cu_lift.proofs.placing.placements.Given as goal

-- the local functions of the functions so far have their places
abbrev pub invariant-loop-index : goal.invariant-loop-index
invariant-loop-index l = record {
  table : Extends l.fn.names l.names;
  many : length l.placements.items ≡ l.index;
  placed : ArePlaced l.names (map top_function_meaning l.functions) l.placements.items;
}
