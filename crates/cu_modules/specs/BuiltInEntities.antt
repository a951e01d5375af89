-- The entities that modules have without a declaration.
use Rattle.std.specs.Prelude.{ℕ, zero, suc, ◌+◌, List, [], ◌∷◌, ◌++◌, codes, map, if◌then◌else◌}
use Rattle.std.specs.List.{All, Contains, flat_map}
use Rattle.std.specs.Str.{bytes_eq}
use Rattle.cu_entities.specs.Entities.{Constructor, DataType, Entity, Function, SetFunction, Sort}

abbrev pub prelude_name : List ℕ
prelude_name = codes "Prelude"

abbrev pub set_functions_name : List ℕ
set_functions_name = codes "SetFunctions"

abbrev pub entity : List ℕ → Sort → List ℕ → Entity
entity owner sort name = record { owner = owner; name = name; sort = sort }

-- the names of the operations that are built in, in the order in which the Prelude has them
abbrev pub external_names : List (List ℕ)
external_names =
    codes "+" ∷ codes "-" ∷ codes "*" ∷ codes "div" ∷ codes "mod" ∷ codes "<" ∷ codes "<="
    ∷ codes ">" ∷ codes ">=" ∷ codes "==" ∷ codes "=:=" ∷
    codes "&" ∷ codes "ord" ∷ codes "chr" ∷ codes "failed" ∷ []

-- the commas between so many components and one more
abbrev pub commas : ℕ → List ℕ
commas zero = []
commas (suc n) = codes "," ++ commas n

-- a type with one constructor, both of this name
abbrev pub single_type : List ℕ → List Entity
single_type name = entity prelude_name DataType name ∷ entity prelude_name (Constructor name) name
    ∷ []

-- the name of tuples with so many commas
abbrev pub tuple_name : ℕ → List ℕ
tuple_name n = codes "(" ++ (commas n ++ codes ")")

-- unit, and the tuples of 2 to 15 components
abbrev pub single_names : List (List ℕ)
single_names =
    codes "()" ∷ map tuple_name (1 ∷ 2 ∷ 3 ∷ 4 ∷ 5 ∷ 6 ∷ 7 ∷ 8 ∷ 9 ∷ 10 ∷ 11 ∷ 12 ∷ 13 ∷ 14 ∷ [])

-- the types of literals
abbrev pub literal_names : List (List ℕ)
literal_names = codes "Int" ∷ codes "Char" ∷ []

-- the constructor between a list's first element and the others
abbrev pub cons : Entity
cons = entity prelude_name (Constructor (codes "[]")) (codes ":")

abbrev pub list_type : List Entity
list_type = entity prelude_name DataType (codes "[]")
    ∷ entity prelude_name (Constructor (codes "[]")) (codes "[]") ∷ cons ∷ []

-- lists, unit, the tuples of 2 to 15 components, and the types of literals
abbrev pub first_types : List Entity
first_types = list_type ++ flat_map single_type single_names
    ++ map (entity prelude_name DataType) literal_names

-- the names of the functions that give all values of calls of functions of 0 to 7 parameters
abbrev pub set_function_names : List (List ℕ)
set_function_names =
    codes "set0" ∷ codes "set1" ∷ codes "set2" ∷ codes "set3" ∷ codes "set4" ∷ codes "set5"
    ∷ codes "set6" ∷ codes "set7" ∷ []

-- the entities of functions that give all values of calls: the first is for functions of n
-- parameters, the next for one more
abbrev pub set_functions : List ℕ → ℕ → List (List ℕ) → List Entity
set_functions owner n [] = []
set_functions owner n (name ∷ names) =
    entity owner (SetFunction n) name ∷ set_functions owner (n + 1) names

-- the entities that a module has without a declaration
abbrev pub built_in_entities : List ℕ → List Entity
built_in_entities owner =
    if bytes_eq owner prelude_name then first_types ++ map (entity owner Function) external_names
    else if bytes_eq owner set_functions_name then set_functions owner 0 set_function_names
    else []

-- A table has the names of the built-in modules, and those of the entities that have no
-- declaration.
pub record HasBuiltIn (names : List (List ℕ)) : Type 0 where
  pub modules : All (Contains names) (prelude_name ∷ set_functions_name ∷ [])
  pub lists : All (Contains names) (codes "[]" ∷ codes ":" ∷ [])
  pub singles : All (Contains names) single_names
  pub literals : All (Contains names) literal_names
  pub externals : All (Contains names) external_names
  pub sets : All (Contains names) set_function_names
