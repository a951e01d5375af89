use Rattle.std.proofs.Common.{map}
use Rattle.cu_deftree.specs.Inside.Functions.{AreLowered}
use Rattle.cu_deftree.specs.Inside.Ready.{program_in}
use Rattle.cu_kernel.specs.KernelOf.{function_meaning}
use Rattle.cu_deftree.proofs.trees.Lowerer.functions.Given as goal

-- the functions so far are lowered
abbrev pub invariant-loop-index : goal.invariant-loop-index
invariant-loop-index l = AreLowered (program_in l.self) (map function_meaning l.functions) l.index (map function_meaning l.lowered.items)
