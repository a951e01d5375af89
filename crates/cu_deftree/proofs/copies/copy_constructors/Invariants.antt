use Rattle.std.proofs.Common.{◌≡◌, ◌++◌, drop, map}
use Rattle.cu_kernel.specs.KernelOf.{constructor_meaning}
use Rattle.cu_deftree.proofs.copies.copy_constructors.Given as goal

-- the copies and what is left are all
abbrev pub invariant-loop-constructor : goal.invariant-loop-constructor
invariant-loop-constructor l = map constructor_meaning l.copies.items ++ map constructor_meaning (drop l.constructor-index l.constructors) ≡ map constructor_meaning l.constructors
