-- What the declarations of modules make.
use Rattle.std.specs.Prelude.{ℕ, Bool, true, false, ◌&&◌, List, [], ◌∷◌, not}
use Rattle.std.specs.List.{filter}
use Rattle.std.specs.Str.{bytes_eq}

-- Types are one name space; functions, constructors and variables are another.
pub data Space : Type 0 where
  Types : Space
  Values : Space

pub data Sort : Type 0 where
  Function : Sort
  -- the function that gives all values of calls of functions of so many parameters
  SetFunction : ℕ → Sort
  -- a constructor of the data type of this name, in the same module
  Constructor : List ℕ → Sort
  DataType : Sort
  Synonym : Sort

-- the module that declares an entity, its name there, and its sort
pub record Entity : Type 0 where
  pub owner : List ℕ
  pub name : List ℕ
  pub sort : Sort

abbrev pub space_of : Sort → Space
space_of Function = Values
space_of (SetFunction n) = Values
space_of (Constructor t) = Values
space_of DataType = Types
space_of Synonym = Types

abbrev pub same_space : Space → Space → Bool
same_space Types Types = true
same_space Values Values = true
same_space _ _ = false

-- Whether two entities are one. A name that a module declares twice in one name space is one
-- entity.
abbrev pub same_entity : Entity → Entity → Bool
same_entity e f = bytes_eq e.owner f.owner
    && (bytes_eq e.name f.name && same_space (space_of e.sort) (space_of f.sort))

-- the entities of a list, each once, where it stands first
abbrev pub distinct : List Entity → List Entity
distinct [] = []
distinct (e ∷ entities) = e ∷ filter (λ f. not (same_entity e f)) (distinct entities)
