use Rattle.std.proofs.Common.{ℕ, List, take}
use Rattle.std.specs.List.{All, flat_map}
use Rattle.cu_entities.specs.Bindings.{Binding}
use Rattle.cu_entities.specs.EntityMeaning.{EntityIsKnown, entities_meaning}
use Rattle.cu_names.specs.declared.names.NameId.{NameId}
use Rattle.cu_names.specs.Texts.{AllDiffer}
use Rattle.cu_syntax.specs.Items.{constructors_meaning}
use Rattle.cu_syntax.specs.Owners.{ConstructorsAreOf}
use Rattle.cu_modules.specs.Inside.Binding.{IsScope}
use Rattle.cu_modules.specs.Known.{AreEntities}
use Rattle.cu_modules.specs.Scopes.{constructors_in}
use Rattle.cu_modules.proofs.listing.constructors_of.Given as goal

abbrev pub invariant-types : goal.invariant-types
invariant-types l = (owner : NameId) (names : List (List ℕ)) (bindings : List Binding) → AllDiffer names → IsScope names bindings l.scope → All (EntityIsKnown names) l.types
    → ConstructorsAreOf owner names l.constructors
    → AreEntities names (flat_map (constructors_in bindings (constructors_meaning names l.constructors)) (entities_meaning names (take l.t-index l.types))) l.all.items
