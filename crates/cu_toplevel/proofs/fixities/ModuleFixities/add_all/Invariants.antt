use Rattle.std.proofs.Common.{ℕ, List, ◌++◌, map, take}
use Rattle.std.specs.List.{All}
use Rattle.cu_names.specs.declared.names.NameId.{NameId}
use Rattle.cu_names.specs.Texts.{AllDiffer}
use Rattle.cu_syntax.specs.Names.{name_meaning}
use Rattle.cu_syntax.specs.Owners.{NameIsOf}
use Rattle.cu_toplevel.specs.FixityTables.{Declares}
use Rattle.cu_translation.specs.ModuleNames.{Declared, declaration}
use Rattle.cu_toplevel.proofs.fixities.ModuleFixities.add_all.Given as goal

abbrev pub invariant-operators : goal.invariant-operators
invariant-operators l = (owner : NameId) (names : List (List ℕ)) (before : List Declared) → AllDiffer names → All (NameIsOf owner names) l.operators → Declares names before l.fn.self
    → Declares names (before ++ map (declaration l.fixity.side l.fixity.level) (map (name_meaning names) (take l.operator-index l.operators))) l.self
