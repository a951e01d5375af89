use Rattle.std.proofs.Common.{◌≡◌, ◌++◌, List, drop, map}
use Rattle.std.specs.List.{flat_map}
use Rattle.cu_faults.specs.Telling.{setting}
use Rattle.cu_kernel.specs.LocalKernelOf.{local_function_meaning}
use Rattle.cu_locals.specs.Text.{Text}
use Rattle.cu_sites.specs.Meaning.{Stands}
use Rattle.cu_translation.specs.Around.{Around}
use Rattle.cu_translation.specs.LocalFunctions.{functions_of, local_functions}
use Rattle.cu_translation.specs.Sites.{Node}
use Rattle.cu_desugar.specs.Inside.Surrounding.{Surrounds}
use Rattle.cu_desugar.proofs.local_functions.local_functions.Given as goal

abbrev pub invariant-loop-node : goal.invariant-loop-node
invariant-loop-node l =
    (t : Text) (a : Around) (nodes : List Node) → Surrounds (setting t a) l.around → Stands t nodes l.sites
    → map local_function_meaning l.functions.items ++ flat_map (functions_of a) (drop l.node-index nodes) ≡ local_functions a nodes
