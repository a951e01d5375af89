-- The tests by which it is decided whether the parts of a program fit together.
use Rattle.std.specs.Prelude.{Bool, ◌&&◌, nat_eq}
use Rattle.std.specs.List.{list_all}
use Rattle.cu_kernel.specs.LocalKernel.{LocalKernel}
use Rattle.cu_kernel.specs.LocalValid.{function_fits, goal_fits, heads_program, mark_is_placed, synonym_is_placed, type_is_placed}
use Rattle.cu_kernel.specs.declared.local_program.Counts.{Counts}
use Rattle.cu_parts.specs.Inside.LocalConjunction.{has_entities}

-- whether the numbers of a part begin with 0, since nothing comes before it
abbrev pub begins : Counts → Bool
begins start =
    nat_eq start.types 0 && nat_eq start.constructors 0 && nat_eq start.functions 0
    && nat_eq start.synonyms 0 && nat_eq start.modules 0

-- whether what stands beside the functions names what is there
abbrev pub names_fit : LocalKernel → Bool
names_fit kernel =
    list_all (type_is_placed kernel) kernel.types
    && list_all (synonym_is_placed kernel) kernel.synonyms
    && list_all (mark_is_placed kernel) kernel.marks && goal_fits kernel kernel.goal

-- whether functions and built-in entities use the heads that are there as they may
abbrev pub heads_fit : LocalKernel → Bool
heads_fit kernel = has_entities kernel (heads_program kernel)
    && list_all (function_fits kernel) kernel.functions
