-- Kernel programs with other functions.
use Rattle.std.specs.Prelude.{List}
use Rattle.cu_kernel.specs.Kernel.{Function, Kernel}

-- a program with these functions in place of its own
abbrev pub with_functions : Kernel → List Function → Kernel
with_functions kernel functions = record {
  types = kernel.types;
  functions = functions;
  synonyms = kernel.synonyms;
  modules = kernel.modules;
  marks = kernel.marks;
  goal = kernel.goal;
  special = kernel.special;
}
