-- What the answer of inference says of a program.
use Rattle.cu_kernel.specs.Kernel.{Kernel}
use Rattle.cu_types.specs.Inference.{IsInferred}
use Rattle.cu_types.specs.TypeFaults.{HasFunctionalGoal}
use Rattle.cu_front.specs.declared.runnable.Typing.{Typing}
use Rattle.cu_front.specs.declared.runnable.Typing.TheVariants as typing

-- The answer of inference says what is true of the program.
abbrev pub IsTyping : Kernel → Typing → Type 0
IsTyping program (typing.Data interface) = IsInferred program interface
IsTyping program typing.Functional = HasFunctionalGoal program
