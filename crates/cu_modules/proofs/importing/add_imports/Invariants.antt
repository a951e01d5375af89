use Rattle.std.proofs.Common.{ℕ, List, ◌++◌, take}
use Rattle.std.specs.List.{flat_map}
use Rattle.cu_syntax.specs.Answer.{items_meaning}
use Rattle.cu_syntax.specs.Syntax as syntax
use Rattle.cu_modules.specs.Inside.Imported.{AreImportsOf}
use Rattle.cu_modules.specs.Reading.{HasModule}
use Rattle.cu_modules.specs.Scopes.{imports_by}
use Rattle.cu_modules.proofs.importing.add_imports.Given as goal

abbrev pub invariant-items : goal.invariant-items
invariant-items l = (names : List (List ℕ)) (before : List syntax.Import) → HasModule names l.fn.module → AreImportsOf l.fn.module.name names before l.fn.imports.items
    → AreImportsOf l.fn.module.name names (before ++ flat_map imports_by (items_meaning names (take l.item-index l.item-items))) l.imports.items
