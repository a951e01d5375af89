-- The entities of modules as numbers: data types, constructors, synonyms and functions are each
-- numbered over all modules, in the order of the modules and then of the text. What is built in
-- comes first in its module.
use Rattle.std.specs.Prelude.{ℕ, ◌+◌, Bool, ◌&&◌, List, [], ◌∷◌, ◌++◌, Option, None, Some, codes, length, map, position, if◌then◌else◌}
use Rattle.std.specs.List.{flat_map}
use Rattle.std.specs.Str.{bytes_eq}
use Rattle.cu_syntax.specs.Syntax as syntax
use Rattle.cu_syntax.specs.Syntax.{ConstructorDeclaration, Item, Name}
use Rattle.cu_modules.specs.BuiltInEntities.{prelude_name, set_function_names, set_functions_name}
use Rattle.cu_modules.specs.Scopes.{Named}
use Rattle.cu_calculus.specs.Valid.{external_arity}
use Rattle.cu_translation.specs.Externals.{External, externals}
use Rattle.cu_translation.specs.Rules.{Group, groups, pattern_count, rule_in_item}
use Rattle.cu_translation.specs.Around.{tuple_name}
use Rattle.cu_translation.specs.TypeTable.{type_count}

-- an entity of a module of this name, and how many parameters, fields or arguments it takes
pub record Declared : Type 0 where
  pub owner : List ℕ
  pub name : List ℕ
  pub arity : ℕ

abbrev pub declared : List ℕ → List ℕ → ℕ → Declared
declared owner name arity = record { owner = owner; name = name; arity = arity }

abbrev pub in_prelude : List ℕ → ℕ → Declared
in_prelude name arity = declared prelude_name name arity

-- a list for the Prelude, and the empty list for other modules
abbrev pub only_in_prelude : {A : Type 0} → List ℕ → List A → List A
only_in_prelude owner built_in = if bytes_eq owner prelude_name then built_in else []

-- the numbers of components of tuples
abbrev pub tuple_sizes : List ℕ
tuple_sizes = 2 ∷ 3 ∷ 4 ∷ 5 ∷ 6 ∷ 7 ∷ 8 ∷ 9 ∷ 10 ∷ 11 ∷ 12 ∷ 13 ∷ 14 ∷ 15 ∷ []

abbrev pub of_tuples : ℕ → Declared
of_tuples n = in_prelude (tuple_name n) n

-- ---- data types

-- lists, unit, the tuples, and the types of literals
abbrev pub first_types : List Declared
first_types =
    (in_prelude (codes "[]") 1 ∷ in_prelude (codes "()") 0 ∷ map of_tuples tuple_sizes) ++
    (in_prelude (codes "Int") 0 ∷ in_prelude (codes "Char") 0 ∷ [])

abbrev pub types_by : List ℕ → Item → List Declared
types_by owner (syntax.Data at name parameters constructors) =
    declared owner name.text (length parameters) ∷ []
types_by owner _ = []

abbrev pub types_in : Named → List Declared
types_in m = only_in_prelude m.name first_types ++ flat_map (types_by m.name) m.syntax.items

abbrev pub all_types : List Named → List Declared
all_types modules = flat_map types_in modules

-- ---- constructors: those of one type as they are declared, and then those of the next

abbrev pub first_constructors : List Declared
first_constructors =
    in_prelude (codes "[]") 0 ∷ in_prelude (codes ":") 2 ∷ in_prelude (codes "()") 0 ∷
    map of_tuples tuple_sizes

abbrev pub constructor : List ℕ → ConstructorDeclaration → Declared
constructor owner c = declared owner c.name.text (type_count c.fields)

abbrev pub constructors_by : List ℕ → Item → List Declared
constructors_by owner (syntax.Data at name parameters constructors) =
    map (constructor owner) constructors
constructors_by owner _ = []

abbrev pub constructors_in : Named → List Declared
constructors_in m =
    only_in_prelude m.name first_constructors ++ flat_map (constructors_by m.name) m.syntax.items

abbrev pub all_constructors : List Named → List Declared
all_constructors modules = flat_map constructors_in modules

-- ---- synonyms

abbrev pub synonyms_by : List ℕ → Item → List Declared
synonyms_by owner (syntax.Synonym at name parameters meant) =
    declared owner name.text (length parameters) ∷ []
synonyms_by owner _ = []

abbrev pub synonyms_in : Named → List Declared
synonyms_in m = flat_map (synonyms_by m.name) m.syntax.items

abbrev pub all_synonyms : List Named → List Declared
all_synonyms modules = flat_map synonyms_in modules

-- ---- functions

-- the operations that are built in, with the numbers of their parameters
abbrev pub external : External → Declared
external e = in_prelude e.name (external_arity e.operation)

-- the rules of each function of a module
abbrev pub groups_in : Named → List Group
groups_in m = groups (map rule_in_item m.syntax.items)

-- the declaration of a function of a module: it takes as many arguments as its first rule has
-- patterns
abbrev pub function : List ℕ → Group → Declared
function owner g = declared owner g.first.name.text (pattern_count g.first.parameters)

abbrev pub functions_in : Named → List Declared
functions_in m =
    only_in_prelude m.name (map external externals) ++ map (function m.name) (groups_in m)

abbrev pub all_functions : List Named → List Declared
all_functions modules = flat_map functions_in modules

-- ---- numbers

-- the number of an entity among those of its kind, and how many arguments it takes
pub record Numbered : Type 0 where
  pub number : ℕ
  pub arity : ℕ

abbrev pub is_called : List ℕ → List ℕ → Declared → Bool
is_called owner name d = bytes_eq d.owner owner && bytes_eq d.name name

-- the number of what a module declares under a name, where the first of these has the number n
abbrev pub numbered_from : ℕ → List ℕ → List ℕ → List Declared → Option Numbered
numbered_from n owner name [] = None
numbered_from n owner name (d ∷ ds) =
    if is_called owner name d then Some (record { number = n; arity = d.arity })
    else numbered_from (n + 1) owner name ds

abbrev pub numbered : List ℕ → List ℕ → List Declared → Option Numbered
numbered owner name ds = numbered_from 0 owner name ds

-- how many parameters the functions have whose set functions a name of the module SetFunctions
-- gives
abbrev pub set_arity : List ℕ → List ℕ → Option ℕ
set_arity owner name =
    if bytes_eq owner set_functions_name then position (bytes_eq name) set_function_names else None
