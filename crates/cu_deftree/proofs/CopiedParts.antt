-- What a program is made of.
use Rattle.std.proofs.Common.{◌≡◌, List, Option, refl}
use Rattle.cu_calculus.specs.declared.builtin.Special.{Special}
use Rattle.cu_deftree.specs.Inside.OtherFunctions.{with_functions}
use Rattle.cu_kernel.specs.Kernel.{DataType, Function, Goal, Kernel, Mark, Module, Synonym}

-- parts that are like a program's beside its functions
pub with_other_functions : (kernel : Kernel) (types : List DataType) (functions : List Function) (synonyms : List Synonym) (modules : List Module)
    (marks : List Mark) (goal : Option Goal) (special : Special) → types ≡ kernel.types → synonyms ≡ kernel.synonyms
    → modules ≡ kernel.modules → marks ≡ kernel.marks → goal ≡ kernel.goal → special ≡ kernel.special
    → ◌≡◌ {A = Kernel} (record {
      types = types;
      functions = functions;
      synonyms = synonyms;
      modules = modules;
      marks = marks;
      goal = goal;
      special = special;
    }) (with_functions kernel functions)
with_other_functions kernel types functions synonyms modules marks goal special a b c d e f = rw (a, b, c, d, e, f) refl
