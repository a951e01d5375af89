-- What is known of modules.
use Rattle.std.specs.Prelude.{ℕ, List}
use Rattle.std.specs.List.{All}
use Rattle.cu_modules.specs.BuiltInEntities.{HasBuiltIn}
use Rattle.cu_modules.specs.Ordering.{modules_of}
use Rattle.cu_modules.specs.Reading.{HasModule}
use Rattle.cu_modules.specs.ScopeAnswers.{AreScopes}
use Rattle.cu_modules.specs.Scopes.{Named}
use Rattle.cu_names.specs.declared.names.NameId.{NameId}
use Rattle.cu_toplevel.specs.EntityTables.{AreEntities}
use Rattle.cu_translation.specs.Functions.{goal_name}
use Rattle.cu_translation.specs.ModuleNames.{id_of, module_at}
use Rattle.cu_desugar.specs.declared.modules.Modules.{Modules}

abbrev pub named : Modules → List Named
named m = modules_of m.names.now m.modules.now

-- A table has the names of the modules, and what the code knows of these is right.
pub record AreKnown (m : Modules) : Type 0 where
  pub built_in : HasBuiltIn m.names.now
  pub has : All (HasModule m.names.now) m.modules.now
  pub scopes : AreScopes m.names.now (named m) m.scopes.now
  pub entities : AreEntities m.names.now (named m) m.entities.now

-- the number of the name of this module, which owns the places of the module
abbrev pub owner_of : Modules → ℕ → NameId
owner_of m number = id_of m.names.now (module_at (named m) number).name

-- the number of the name `goal`, which owns the places of a goal
abbrev pub goal_owner : Modules → NameId
goal_owner m = id_of m.names.now goal_name
