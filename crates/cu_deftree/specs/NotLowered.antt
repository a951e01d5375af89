-- Why a program isn't lowered.
use Rattle.std.specs.Prelude.{Err}
use Rattle.cu_calculus.specs.Program.{Program}
use Rattle.cu_deftree.specs.LoweredProgram.{Lowering}
use Rattle.cu_deftree.specs.declared.functions.LowerFault.{LowerFault}
use Rattle.cu_deftree.specs.declared.functions.LowerFault.TheVariants as fault

-- The first function whose body would be too big, or there was no memory left.
abbrev pub IsLowerFault : Program → LowerFault → Type 0
IsLowerFault program (fault.TreeTooBig f) = Lowering program (Err f)
IsLowerFault program fault.NoMemory = Unit {0}
