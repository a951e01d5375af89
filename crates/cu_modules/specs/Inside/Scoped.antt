-- What is in scope in a module, under a table of names.
use Rattle.std.specs.Prelude.{ℕ, List}
use Rattle.cu_modules.specs.declared.modules.Module.{Module}
use Rattle.cu_modules.specs.declared.scoped.Scoped.{Scoped}
use Rattle.cu_modules.specs.Inside.Binding.{IsScope}
use Rattle.cu_modules.specs.Inside.Imported.{AreImportsOf}
use Rattle.cu_modules.specs.Known.{AreEntities}
use Rattle.cu_modules.specs.Ordering.{module_of}
use Rattle.cu_modules.specs.Scopes.{Interface, imports_of, own_entities, scope}

-- The code has the entities and the imports of a module, and its scope, given the interfaces of the
-- modules before it.
pub record IsScoped (names : List (List ℕ)) (before : List Interface) (m : Module)
    (s : Scoped) : Type 0 where
  pub own : AreEntities names (own_entities (module_of names m)) s.own.items
  pub imports : AreImportsOf m.name names (imports_of (module_of names m)) s.imports.items
  pub bindings : IsScope names (scope before (module_of names m)) s.scope
