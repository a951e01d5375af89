-- The data types and the synonyms of a module, with those that are built in.
use Rattle.std.specs.Prelude.{ℕ, zero, suc, ◌+◌, Bool, ◌&&◌, List, [], ◌∷◌, ◌++◌, codes, length, map}
use Rattle.std.specs.List.{flat_map, list_any}
use Rattle.std.specs.Str.{bytes_eq}
use Rattle.cu_kernel.specs.Kernel as kernel
use Rattle.cu_kernel.specs.TypeExpr as expr
use Rattle.cu_kernel.specs.TypeExpr.{TypeExpr}
use Rattle.cu_syntax.specs.Syntax as syntax
use Rattle.cu_syntax.specs.Syntax.{ConstructorDeclaration, Goal, Item, Name, TypeTerm, expression_position}
use Rattle.cu_uses.specs.Binders.{texts}
use Rattle.cu_entities.specs.Entities.{Entity, Space, Types, Values, same_space, space_of}
use Rattle.cu_modules.specs.Scopes.{Named}
use Rattle.cu_translation.specs.Around.{Names, tuple_name}
use Rattle.cu_translation.specs.ModuleNames.{id_of}
use Rattle.cu_translation.specs.Numbered.{only_in_prelude, tuple_sizes}
use Rattle.cu_translation.specs.TypeTable.{fields_of, type_of}

-- a module, the table of names, and what its names refer to
pub record Reading : Type 0 where
  pub table : List (List ℕ)
  pub names : Names
  pub number : ℕ
  pub m : Named
  -- what the module exports
  pub exports : List Entity

abbrev pub is_entity : List ℕ → Space → List ℕ → Entity → Bool
is_entity owner space name e =
    bytes_eq e.owner owner && (bytes_eq e.name name && same_space space (space_of e.sort))

-- whether the module exports an entity of its own
abbrev pub is_public : Reading → Space → List ℕ → Bool
is_public reading space name = list_any (is_entity reading.m.name space name) reading.exports

-- ---- types

abbrev pub constructor : Reading → List ℕ → List TypeExpr → kernel.Constructor
constructor reading name fields = record {
  name = id_of reading.table name;
  public = is_public reading Values name;
  fields = fields;
}

abbrev pub data_type : Reading → List ℕ → ℕ → List kernel.Constructor → kernel.DataType
data_type reading name arity constructors = record {
  name = id_of reading.table name;
  «module» = reading.number;
  arity = arity;
  public = is_public reading Types name;
  constructors = constructors;
}

-- so many type variables, from number n on
abbrev pub variables_from : ℕ → ℕ → List TypeExpr
variables_from zero n = []
variables_from (suc count) n = expr.Variable n ∷ variables_from count (n + 1)

abbrev pub tuple_type : Reading → ℕ → kernel.DataType
tuple_type reading n =
    data_type reading (tuple_name n) n
    (constructor reading (tuple_name n) (variables_from n 0) ∷ [])

abbrev pub list_of : Names → TypeExpr → TypeExpr
list_of names t = expr.Named (names.prelude_type (codes "[]")) (expr.MoreTypes t expr.NoType)

abbrev pub first_types : Reading → List kernel.DataType
first_types reading =
    (data_type reading (codes "[]") 1
    (constructor reading (codes "[]") [] ∷
    constructor reading (codes ":")
    (expr.Variable 0 ∷ list_of reading.names (expr.Variable 0) ∷ []) ∷ []) ∷
    tuple_type reading 0 ∷ map (tuple_type reading) tuple_sizes) ++
    (data_type reading (codes "Int") 0 [] ∷ data_type reading (codes "Char") 0 [] ∷ [])

abbrev pub declared_constructor : Reading → List Name → ConstructorDeclaration → kernel.Constructor
declared_constructor reading parameters c =
    constructor reading c.name.text (fields_of reading.names (texts parameters) c.fields)

abbrev pub types_by : Reading → Item → List kernel.DataType
types_by reading (syntax.Data at name parameters cs) =
    data_type reading name.text (length parameters)
    (map (declared_constructor reading parameters) cs) ∷ []
types_by reading _ = []

abbrev pub types_in : Reading → List kernel.DataType
types_in reading =
    only_in_prelude reading.m.name (first_types reading) ++
    flat_map (types_by reading) reading.m.syntax.items

abbrev pub synonyms_by : Reading → Item → List kernel.Synonym
synonyms_by reading (syntax.Synonym at name parameters meant) =
    record {
      name = id_of reading.table name.text;
      «module» = reading.number;
      public = is_public reading Types name.text;
      arity = length parameters;
      body = type_of reading.names (texts parameters) meant;
    } ∷ []
synonyms_by reading _ = []
