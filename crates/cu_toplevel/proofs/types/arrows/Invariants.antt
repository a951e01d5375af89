use Rattle.std.proofs.Common.{◌≡◌, map, vec_len}
use Rattle.cu_kernel.specs.TypesOf.{type_of}
use Rattle.cu_toplevel.specs.Inside.Arrows.{arrows}
use Rattle.cu_toplevel.proofs.types.arrows.Given as goal

abbrev pub invariant-left : goal.invariant-left
invariant-left l = arrows (map type_of l.left.items) (type_of l.whole) ≡ arrows (map type_of l.fn.parameters.items) (type_of l.fn.to)

abbrev pub decreases-left : goal.decreases-left
decreases-left l = vec_len l.left
