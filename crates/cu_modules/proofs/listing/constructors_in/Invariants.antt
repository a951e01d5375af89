use Rattle.std.proofs.Common.{ℕ, List, map, take}
use Rattle.std.specs.List.{All}
use Rattle.cu_entities.specs.EntityMeaning.{EntityIsKnown, entity_meaning}
use Rattle.cu_names.specs.declared.names.NameId.{NameId}
use Rattle.cu_names.specs.Texts.{AllDiffer}
use Rattle.cu_syntax.specs.Items.{constructors_meaning}
use Rattle.cu_syntax.specs.Owners.{ConstructorsAreOf}
use Rattle.cu_modules.specs.Inside.Binding.{BoundIsKnown, bound_meaning}
use Rattle.cu_modules.specs.Known.{AreEntities}
use Rattle.cu_modules.specs.Scopes.{constructors_in}
use Rattle.cu_modules.proofs.listing.constructors_in.Given as goal

abbrev pub invariant-bound : goal.invariant-bound
invariant-bound l = (owner : NameId) (names : List (List ℕ)) → AllDiffer names → All (BoundIsKnown names) l.bound → EntityIsKnown names l.of
    → ConstructorsAreOf owner names l.constructors
    → AreEntities names (constructors_in (map (bound_meaning names) (take l.one-index l.bound)) (constructors_meaning names l.constructors) (entity_meaning names l.of)) l.found.items
