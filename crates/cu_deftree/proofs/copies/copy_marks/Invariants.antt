use Rattle.std.proofs.Common.{◌≡◌, ◌++◌, drop, map}
use Rattle.cu_kernel.specs.KernelOf.{mark_meaning}
use Rattle.cu_deftree.proofs.copies.copy_marks.Given as goal

-- the copies and what is left are all
abbrev pub invariant-loop-mark : goal.invariant-loop-mark
invariant-loop-mark l = map mark_meaning l.copies.items ++ map mark_meaning (drop l.mark-index l.marks) ≡ map mark_meaning l.marks
