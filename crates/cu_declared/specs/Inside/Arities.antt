-- Which uses have a wrong number of arguments, by tests.
use Rattle.std.specs.Prelude.{ℕ, Bool, true, false, not, List, [], ◌∷◌, Option, None, Some, if◌then◌else◌, nat_eq}
use Rattle.std.specs.List.{flat_map}
use Rattle.cu_entities.specs.Bindings.{Binding}
use Rattle.cu_entities.specs.Entities.{Entity, Types}
use Rattle.cu_modules.specs.Scopes.{meant}
use Rattle.cu_declared.specs.Parameters.{Numbered, number_of}
use Rattle.cu_declared.specs.TypeFaults.{Fault, arity_fault}
use Rattle.cu_declared.specs.TypeUses.{TypeUse}

-- the entity that a name means, where it means one alone
abbrev pub alone : List Entity → Option Entity
alone [] = None
alone (e ∷ []) = Some e
alone (e ∷ f ∷ entities) = None

abbrev pub entity_meant : List Binding → TypeUse → Option Entity
entity_meant bindings used = alone (meant bindings Types used.name)

abbrev pub differs : Option ℕ → ℕ → Bool
differs None n = true
differs (Some parameters) n = not (nat_eq parameters n)

abbrev pub is_wrong_for : List Numbered → ℕ → Option Entity → Bool
is_wrong_for numbers arguments None = false
is_wrong_for numbers arguments (Some e) = differs (number_of numbers e) arguments

abbrev pub is_wrong : List Numbered → List Binding → TypeUse → Bool
is_wrong numbers bindings used = is_wrong_for numbers used.arguments (entity_meant bindings used)

abbrev pub use_faults : List Numbered → List Binding → TypeUse → List Fault
use_faults numbers bindings used =
    if is_wrong numbers bindings used then arity_fault used ∷ [] else []

abbrev pub arity_faults : List Numbered → List Binding → List TypeUse → List Fault
arity_faults numbers bindings uses = flat_map (use_faults numbers bindings) uses
