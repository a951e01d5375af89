use Rattle.std.proofs.Common.{◌≡◌, ℕ, List, map, take}
use Rattle.cu_kernel.specs.KernelOf.{mark_meaning}
use Rattle.cu_toplevel.specs.Inside.Given.{external_meaning}
use Rattle.cu_toplevel.specs.Readings.{IsReading}
use Rattle.cu_translation.specs.ModuleTypes.{Reading}
use Rattle.cu_translation.specs.Parts.{external_mark}
use Rattle.cu_toplevel.proofs.externals.marks.Given as goal

abbrev pub invariant-externals : goal.invariant-externals
invariant-externals l = (names : List (List ℕ)) (r : Reading) → IsReading names r l.reading
    → map mark_meaning l.marks.items ≡ map (λ g. external_mark r (external_meaning g)) (take l.text-index l.externals)
