use Rattle.std.proofs.Common.{ℕ, List, ◌++◌, map, take}
use Rattle.std.specs.List.{All}
use Rattle.std.specs.Option.{option_map}
use Rattle.std.specs.Prelude.{IfSome}
use Rattle.cu_entities.specs.Bindings.{Binding}
use Rattle.cu_entities.specs.EntityMeaning.{EntityIsKnown, entities_meaning}
use Rattle.cu_modules.specs.Inside.Binding.{IsScope}
use Rattle.cu_modules.specs.Scopes.{binding}
use Rattle.cu_names.specs.Texts.{AllDiffer, IsKnown, text_of}
use Rattle.cu_modules.proofs.module_scope.ModuleScope.bind_all.Given as goal

abbrev pub invariant-entities : goal.invariant-entities
invariant-entities l = (names : List (List ℕ)) (bindings : List Binding) → AllDiffer names → IfSome l.qualifier (IsKnown names) → All (EntityIsKnown names) l.entities → IsScope names bindings l.fn.self
    → IsScope names (bindings ++ map (binding (option_map (text_of names) l.qualifier)) (entities_meaning names (take l.entity-index l.entities))) l.self
