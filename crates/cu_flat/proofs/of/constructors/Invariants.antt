use Rattle.std.proofs.Common.{◌≡◌, ◌++◌, IsTrue, drop, map}
use Rattle.std.specs.List.{list_all}
use Rattle.cu_calculus.specs.Valid.{is_arity}
use Rattle.cu_kernel.specs.Kernel.{constructors_from}
use Rattle.cu_kernel.specs.KernelOf as kernel
use Rattle.cu_flat.specs.Meaning.{constructor_meaning}
use Rattle.cu_flat.proofs.of.constructors.Given as goal

-- the constructors so far, and those of the types that are left, are all; their arities fit
abbrev pub invariant-loop-place : goal.invariant-loop-place
invariant-loop-place l =
    IsTrue (list_all (λ c. is_arity c.arity) (constructors_from l.place (map kernel.type_meaning (drop l.place l.types))))
    × (map constructor_meaning l.made.items ++ constructors_from l.place (map kernel.type_meaning (drop l.place l.types))
    ≡ constructors_from 0 (map kernel.type_meaning l.types))
