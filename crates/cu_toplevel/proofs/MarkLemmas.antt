-- What is known of functions.
use Rattle.std.proofs.Common.{◌≡◌, ◌∙◌, ℕ, List, map, ap, sym}
use Rattle.cu_toplevel.specs.declared.function_heads.FunctionHead.{FunctionHead}
use Rattle.cu_toplevel.specs.Heads.{head_meaning, head_of_group}
use Rattle.cu_toplevel.specs.Inside.Marks.{head_mark}
use Rattle.cu_translation.specs.ModuleTypes.{Reading}
use Rattle.cu_translation.specs.Parts.{function_mark}
use Rattle.cu_translation.specs.Rules.{Group}
use Rattle.cu_toplevel.proofs.NameLemmas.{map_twice}

pub marks_of : (names : List (List ℕ)) (r : Reading) (heads : List FunctionHead) (groups : List Group) → map (head_meaning names) heads ≡ map head_of_group groups
    → map (λ h. head_mark r (head_meaning names h)) heads ≡ map (function_mark r) groups
marks_of names r heads groups are =
    sym (map_twice (head_mark r) (head_meaning names) heads) ∙ ap (map (head_mark r)) are ∙ map_twice (head_mark r) head_of_group groups
