-- Which heads may stand, as the code keeps it.
use Rattle.std.specs.Prelude.{map}
use Rattle.cu_kernel.specs.Heads.{heads_program}
use Rattle.cu_kernel.specs.LocalKernelOf.{local_function_meaning}
use Rattle.cu_kernel.specs.LocalValid.{Heads, global_heads, local_heads}
use Rattle.cu_parts.specs.declared.heads.Known.TheVariants.{Locals, Program}
use Rattle.cu_parts.specs.declared.heads.Known.{Known}

abbrev pub known_heads : Known → Heads
known_heads (Locals functions) = local_heads (map local_function_meaning functions.now)
known_heads (Program heads) = global_heads (heads_program heads.now)
