-- Groups of a program one after another, and what comes of each.
use Rattle.std.specs.Prelude.{◌≡◌, Bool, true, false, ℕ, List, [], ◌∷◌, Option, None, Some, length, map}
use Rattle.std.specs.List.{list_any}
use Rattle.cu_calculus.specs.declared.FunId.{FunId}
use Rattle.cu_kernel.specs.Kernel.{Kernel}
use Rattle.cu_types.specs.Equations.{equations}
use Rattle.cu_types.specs.Inference.{BreaksSignature}
use Rattle.cu_types.specs.Inside.Grouping.{IsKnown, IsLeft}
use Rattle.cu_types.specs.Inside.Knowing.{kept_type}
use Rattle.cu_types.specs.Meaning.{Clashes}
use Rattle.cu_types.specs.Table as shape
use Rattle.cu_types.specs.Table.{Shape}
use Rattle.cu_types.specs.TypeFaults.{IsTypeFault}
use Rattle.cu_types.specs.declared.functional.Top.{Top}
use Rattle.cu_types.specs.declared.functional.Top.TheVariants as top
use Rattle.cu_types.specs.declared.inference.TypeFault.{TypeFault}
use Rattle.cu_types.specs.declared.inference.TypeFault.TheVariants as fault
use Rattle.cu_types.specs.declared.known.Known.{Known}
use Rattle.cu_types.specs.declared.node.TypeHead.TheVariants as head

-- a group has no types, and this fault tells why
abbrev pub Fails : Kernel → List Known → List FunId → TypeFault → Type 0
Fails kernel before group (fault.TypeClash f c) =
    (others : List FunId) × (group ≡ f ∷ others)
    × Clashes (equations kernel (map kept_type before) group) c
Fails kernel before group (fault.Signature f) =
    (others : List FunId) × (group ≡ f ∷ others)
    × BreaksSignature kernel (map kept_type before) group
Fails kernel before group fault.GoalFunctional = ⊥
Fails kernel before group fault.NoMemory = ⊥

-- a group has got its types, or this fault tells why it has none
abbrev pub Stepped : Kernel → List Known → List Known → List FunId → Option TypeFault → Type 0
Stepped kernel before after group None = IsLeft kernel before after group
Stepped kernel before after group (Some fault) = Fails kernel before group fault

-- all groups have got their types, or this fault tells why one has none
abbrev pub Ended : Kernel → List (List FunId) → List Known → Option TypeFault → Type 0
Ended kernel groups after None = IsKnown kernel groups (length groups) after
Ended kernel groups after (Some fault) = IsTypeFault kernel fault

-- whether a function type stands in the type of a shape, where it is told of the type at each place
abbrev pub shape_holds : (ℕ → Bool) → Shape → Bool
shape_holds holds (shape.Variable x) = false
shape_holds holds (shape.Applied head.Arrow ps) = true
shape_holds holds (shape.Applied (head.Named n) ps) = list_any holds ps

-- what a function type with arguments at these places is, seen from its top
abbrev pub pair_top : List ℕ → Top
pair_top (a ∷ b ∷ []) = top.Arrow a b
pair_top _ = top.Other

abbrev pub top_of : Shape → Top
top_of (shape.Variable x) = top.Other
top_of (shape.Applied head.Arrow ps) = pair_top ps
top_of (shape.Applied (head.Named n) ps) = top.Other
