use Rattle.std.proofs.Common.{drop, map}
use Rattle.cu_kernel.specs.Kernel.{plain_function}
use Rattle.cu_kernel.specs.KernelOf as kernel
use Rattle.cu_flat.specs.Meaning.{entry_meaning, function_meaning}
use Rattle.cu_flat.proofs.Constructing.{FunctionsLeft}
use Rattle.cu_flat.proofs.arena.Arena.push_functions.Given as goal

-- the functions so far were laid out, and with those that are left they are all
abbrev pub invariant-loop-function : goal.invariant-loop-function
invariant-loop-function l =
    FunctionsLeft (map plain_function (map kernel.function_meaning l.functions))
    (map plain_function (map kernel.function_meaning (drop l.function-index l.functions))) (map entry_meaning l.fn.self.entries.items)
    (map entry_meaning l.self.entries.items) (map function_meaning l.made.items)
