use Rattle.std.proofs.Common.{◌≡◌, drop, map}
use Rattle.std.specs.List.{list_all}
use Rattle.cu_kernel.proofs.declared.constructors_fit.Given as goal
use Rattle.cu_kernel.specs.KernelOf.{constructor_meaning, kernel_of}
use Rattle.cu_kernel.specs.Valid.{fits_constructor}

-- the constructors that are left fit where all do
abbrev pub invariant-loop-constructor : goal.invariant-loop-constructor
invariant-loop-constructor l =
    list_all (fits_constructor (kernel_of l.parts) l.arity) (map constructor_meaning (drop l.constructor-index l.constructors))
    ≡ list_all (fits_constructor (kernel_of l.parts) l.arity) (map constructor_meaning l.constructors)
