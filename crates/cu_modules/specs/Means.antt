-- What the names of modules mean.
use Rattle.std.specs.Prelude.{◌≡◌, ℕ, List, [], ◌∷◌, ◌++◌, Some, slice_get, take}
use Rattle.cu_syntax.specs.Syntax.{Goal, Name}
use Rattle.cu_entities.specs.Entities.{Entity, Space}
use Rattle.cu_uses.specs.Faults.{Fault, IsFirst}
use Rattle.cu_modules.specs.Faults.{faults, goal_faults}
use Rattle.cu_modules.specs.Scopes.{Interface, Named, interfaces, meant, scope}

-- the interfaces of the modules before the one of this number
abbrev pub interfaces_before : List Named → ℕ → List Interface
interfaces_before modules number = interfaces [] (take number modules)

-- A name means this entity alone in the module of a number. Each module stands after those that it
-- imports.
pub record Means (modules : List Named) (number : ℕ) (space : Space) (name : Name)
    (entity : Entity) : Type 0 where
  pub m : Named
  pub is_there : slice_get modules number ≡ Some m
  pub is_alone : meant (scope (interfaces_before modules number) m) space name ≡ entity ∷ []

-- Nothing is wrong with the names of these modules, one after another, given the interfaces of the
-- modules before them.
pub data AreScoped : List Interface → List Named → Type 0 where
  no_module : (before : List Interface) → AreScoped before []
  one_more : (before : List Interface) (m : Named) (modules : List Named) → faults before m ≡ []
      → AreScoped (interfaces before (m ∷ [])) modules
      → AreScoped before (m ∷ modules)

-- The first module that has a fault, after others without, and its first fault.
pub record IsWrong (modules : List Named) (name : List ℕ) (fault : Fault) : Type 0 where
  pub right : List Named
  pub m : Named
  pub others : List Named
  pub among : modules ≡ right ++ m ∷ others
  pub are_right : AreScoped [] right
  pub is_first : IsFirst (faults (interfaces [] right) m) fault
  pub is_named : name ≡ m.name

-- Nothing is wrong with a goal in the module of a number.
pub record IsGoalScoped (modules : List Named) (root : ℕ) (goal : Goal) : Type 0 where
  pub m : Named
  pub is_there : slice_get modules root ≡ Some m
  pub right : goal_faults (interfaces_before modules root) m goal ≡ []

-- The first fault of a goal's names in the module of this number.
pub record IsGoalWrong (modules : List Named) (root : ℕ) (goal : Goal)
    (fault : Fault) : Type 0 where
  pub m : Named
  pub is_there : slice_get modules root ≡ Some m
  pub is_first : IsFirst (goal_faults (interfaces_before modules root) m goal) fault
