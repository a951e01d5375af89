use Rattle.std.proofs.Common.{◌++◌, List, map, take}
use Rattle.cu_modules.specs.Ordering.{module_of}
use Rattle.cu_modules.specs.Scopes.{Named}
use Rattle.cu_toplevel.specs.EntityTables.{AreEntities}
use Rattle.cu_toplevel.proofs.entities.Entities.add_modules.Given as goal

abbrev pub invariant-modules : goal.invariant-modules
invariant-modules l = (before : List Named) → AreEntities l.names before l.fn.self
    → AreEntities l.names (before ++ map (module_of l.names) (take l.module-index l.modules)) l.self
