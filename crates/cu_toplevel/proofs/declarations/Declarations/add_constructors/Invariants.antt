use Rattle.std.proofs.Common.{ℕ, List, map, take}
use Rattle.std.specs.List.{All}
use Rattle.cu_names.specs.Texts.{AllDiffer, IsKnown, text_of}
use Rattle.cu_syntax.specs.Items.{constructor_meaning}
use Rattle.cu_syntax.specs.Owners.{ConstructorDeclarationIsOf}
use Rattle.cu_toplevel.specs.Declarations.{AreListed, Lists}
use Rattle.cu_toplevel.specs.Inside.Gathering.{and_constructors}
use Rattle.cu_toplevel.proofs.declarations.Declarations.add_constructors.Given as goal

abbrev pub invariant-constructors : goal.invariant-constructors
invariant-constructors l = (names : List (List ℕ)) (before : Lists) → AllDiffer names → IsKnown names l.owner → All (ConstructorDeclarationIsOf l.owner names) l.constructors
    → AreListed names before l.fn.self
    → AreListed names (and_constructors (text_of names l.owner) (map (constructor_meaning names) (take l.constructor-index l.constructors)) before) l.self
