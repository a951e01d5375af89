-- Modules that are loaded once, and asked of later.
use Rattle.std.specs.Prelude.{◌≡◌, ◌<◌, ℕ, List, length}
use Rattle.std.specs.List.{All}
use Rattle.cu_modules.specs.BuiltInEntities.{HasBuiltIn}
use Rattle.cu_modules.specs.Ordering.{AreOrdered, modules_of}
use Rattle.cu_modules.specs.Reading.{HasModule}
use Rattle.cu_front.specs.Compiling.{AreCompiled, Folder, root_in}
use Rattle.cu_front.specs.declared.loaded.Loaded.{Loaded}

-- The table has the names of the modules, and those that are built in. The modules stand once each,
-- after all that they import. The root is one of them.
pub record IsLoaded (names : List (List ℕ)) (loaded : Loaded) : Type 0 where
  pub built_in : HasBuiltIn names
  pub known : All (HasModule names) loaded.modules.items
  pub ordered : AreOrdered (modules_of names loaded.modules.items)
  pub root : loaded.root < length loaded.modules.items

-- The modules are those that the root reaches. Nothing of them is refused, and the number is that
-- of the root.
pub record AreLoaded (held : Folder) (root : List ℕ) (names : List (List ℕ)) (loaded : Loaded)
    : Type 0 where
  pub compiled : AreCompiled held root (modules_of names loaded.modules.items)
  pub number : root_in (modules_of names loaded.modules.items) root ≡ loaded.root
