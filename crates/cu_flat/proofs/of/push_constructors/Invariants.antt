use Rattle.std.proofs.Common.{◌≡◌, ◌++◌, IsTrue, drop, map}
use Rattle.std.specs.List.{list_all}
use Rattle.cu_calculus.specs.Valid.{is_arity}
use Rattle.cu_kernel.specs.Kernel.{constructors_of}
use Rattle.cu_kernel.specs.KernelOf as kernel
use Rattle.cu_flat.specs.Meaning.{constructor_meaning}
use Rattle.cu_flat.proofs.of.push_constructors.Given as goal

-- the constructors so far, and those that are left, are all; their arities fit
abbrev pub invariant-loop-constructor : goal.invariant-loop-constructor
invariant-loop-constructor l =
    IsTrue (list_all (λ c. is_arity c.arity) (constructors_of l.place (map kernel.constructor_meaning (drop l.constructor-index l.constructors))))
    × (map constructor_meaning l.made.items ++ constructors_of l.place (map kernel.constructor_meaning (drop l.constructor-index l.constructors))
    ≡ map constructor_meaning l.fn.made.items ++ constructors_of l.place (map kernel.constructor_meaning l.constructors))
