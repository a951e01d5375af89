use Rattle.std.proofs.Common.{◌≡◌, drop, map}
use Rattle.std.specs.List.{list_all}
use Rattle.cu_kernel.specs.KernelOf.{mark_meaning}
use Rattle.cu_kernel.specs.LocalValid.{captures_nothing}
use Rattle.cu_parts.proofs.part.capture_nothing.Given as goal

-- the marks that are left count nothing where none does
abbrev pub invariant-loop-mark : goal.invariant-loop-mark
invariant-loop-mark l =
    list_all captures_nothing (map mark_meaning (drop l.mark-index l.marks)) ≡ list_all captures_nothing (map mark_meaning l.marks)
