use Rattle.std.proofs.Common.{◌≡◌, ◌+◌, drop, map}
use Rattle.cu_kernel.specs.KernelOf.{module_meaning}
use Rattle.cu_flattext.specs.Text.{place_of}
use Rattle.cu_flattext.proofs.printing.place_of.Given as goal

-- the modules so far have other names
abbrev pub invariant-loop-place : goal.invariant-loop-place
invariant-loop-place l =
    place_of l.name (map module_meaning l.modules) ≡ l.place + place_of l.name (map module_meaning (drop l.place l.modules))
