use Rattle.std.proofs.Common.{◌≡◌, ◌++◌, drop, map}
use Rattle.cu_kernel.specs.KernelOf.{module_meaning}
use Rattle.cu_deftree.proofs.copies.copy_modules.Given as goal

-- the copies and what is left are all
abbrev pub invariant-loop-info : goal.invariant-loop-info
invariant-loop-info l = map module_meaning l.copies.items ++ map module_meaning (drop l.info-index l.modules) ≡ map module_meaning l.modules
