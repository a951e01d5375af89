-- How many parameters the types of modules have.
use Rattle.std.specs.Prelude.{ℕ, Bool, ◌&&◌, List, [], ◌∷◌, ◌++◌, Option, None, Some}
use Rattle.std.specs.Prelude.{if◌then◌else◌, length, map}
use Rattle.std.specs.List.{flat_map}
use Rattle.std.specs.Str.{bytes_eq}
use Rattle.cu_syntax.specs.Syntax as syntax
use Rattle.cu_syntax.specs.Syntax.{Item}
use Rattle.cu_entities.specs.Entities.{Entity}
use Rattle.cu_modules.specs.BuiltInEntities.{literal_names, prelude_name}
use Rattle.cu_modules.specs.Scopes.{Named}

-- a number that belongs to a name of a module
pub record Numbered : Type 0 where
  pub owner : List ℕ
  pub name : List ℕ
  pub number : ℕ

abbrev pub numbered : List ℕ → List ℕ → ℕ → Numbered
numbered owner name number = record { owner = owner; name = name; number = number }

abbrev pub belongs_to : List ℕ → List ℕ → Numbered → Bool
belongs_to owner name n = bytes_eq n.owner owner && bytes_eq n.name name

-- The number that belongs to a name of a module. Where several belong to it, the first counts.
abbrev pub number_at : List Numbered → List ℕ → List ℕ → Option ℕ
number_at [] owner name = None
number_at (n ∷ numbers) owner name =
    if belongs_to owner name n then Some n.number else number_at numbers owner name

abbrev pub number_of : List Numbered → Entity → Option ℕ
number_of numbers e = number_at numbers e.owner e.name

-- the number of parameters of the type that an item declares
abbrev pub parameters_by : List ℕ → Item → List Numbered
parameters_by owner (syntax.Data at name parameters constructors) =
    numbered owner name.text (length parameters) ∷ []
parameters_by owner (syntax.Synonym at name parameters meant) =
    numbered owner name.text (length parameters) ∷ []
parameters_by owner _ = []

abbrev pub parameters_in : Named → List Numbered
parameters_in m = flat_map (parameters_by m.name) m.syntax.items

-- The parameters of `Int` and `Char`, which have no declaration: none. The other types that are
-- built in have signs and no names: `[a]`, `(a, b)`, `()`.
abbrev pub built_in_parameters : List Numbered
built_in_parameters = map (λ name. numbered prelude_name name 0) literal_names

abbrev pub all_parameters : List Named → List Numbered
all_parameters modules = built_in_parameters ++ flat_map parameters_in modules

-- how many parameters a type of these modules has
abbrev pub parameters_of : List Named → Entity → Option ℕ
parameters_of modules t = number_of (all_parameters modules) t
