use Rattle.std.proofs.Common.{ℕ, List, ◌++◌, map, take}
use Rattle.std.specs.List.{All}
use Rattle.cu_entities.specs.Entities as meant
use Rattle.cu_modules.specs.Known.{AreEntities}
use Rattle.cu_modules.specs.OwnEntities.{constructors_declared}
use Rattle.cu_names.specs.Texts.{IsKnown, text_of}
use Rattle.cu_syntax.specs.Items.{constructor_meaning}
use Rattle.cu_syntax.specs.Owners.{ConstructorDeclarationIsOf}
use Rattle.cu_modules.proofs.own.add_constructors.Given as goal

abbrev pub invariant-constructors : goal.invariant-constructors
invariant-constructors l = (names : List (List ℕ)) (before : List meant.Entity) → IsKnown names l.owner → IsKnown names l.type_name → All (ConstructorDeclarationIsOf l.owner names) l.constructors
    → AreEntities names before l.fn.entities.items
    → AreEntities names (before ++ constructors_declared (text_of names l.owner) (text_of names l.type_name) (map (constructor_meaning names) (take l.constructor-index l.constructors))) l.entities.items
