-- What lowering all functions comes to.
use Rattle.std.specs.Prelude.{List, Result, Ok, Err, length, map}
use Rattle.std.specs.declared.alloc.Global.{Global}
use Rattle.std.specs.declared.vec.Vec.{Vec}
use Rattle.cu_calculus.specs.Program as calculus
use Rattle.cu_calculus.specs.declared.FunId.{FunId}
use Rattle.cu_deftree.specs.Inside.Functions.{AreLowered, IsFirstTooBig}
use Rattle.cu_kernel.specs.Kernel as kernel
use Rattle.cu_kernel.specs.KernelOf.{function_meaning}
use Rattle.cu_kernel.specs.declared.term.Function.{Function}

-- all functions are lowered, or the first whose body would be too big is found
abbrev pub AreLoweredOrTooBig : calculus.Program → List kernel.Function
    → Result (Vec Function Global) FunId → Type 0
AreLoweredOrTooBig program functions (Ok lowered) =
    AreLowered program functions (length functions) (map function_meaning lowered.items)
AreLoweredOrTooBig program functions (Err f) = IsFirstTooBig program functions f
