-- What the names of top level refer to in a module among others.
use Rattle.std.specs.Prelude.{ℕ, ◌&&◌, List, [], ◌∷◌, Option, None, Some, codes, find, map, option_map, slice_index_or, if◌then◌else◌}
use Rattle.std.specs.List.{flat_map, position_or_len}
use Rattle.std.specs.Option.{unwrap_or}
use Rattle.std.specs.Str.{bytes_eq}
use Rattle.cu_calculus.specs.declared.Head.TheVariants as global
use Rattle.cu_fixity.specs.declared.fixity.Fixity.{Fixity}
use Rattle.cu_fixity.specs.Fixities as fixities
use Rattle.cu_fixity.specs.Pieces.{undeclared}
use Rattle.cu_kernel.specs.declared.local.LocalHead.TheVariants as head
use Rattle.cu_kernel.specs.declared.type_term.TypeName.{TypeName}
use Rattle.cu_kernel.specs.declared.type_term.TypeName.TheVariants as type
use Rattle.cu_names.specs.declared.names.NameId.{NameId}
use Rattle.cu_syntax.specs.declared.items.Side.{Side}
use Rattle.cu_syntax.specs.Syntax as syntax
use Rattle.cu_syntax.specs.Syntax.{Item, Name}
use Rattle.cu_entities.specs.Entities.{Entity, Space, Types, Values}
use Rattle.cu_modules.specs.Means.{interfaces_before}
use Rattle.cu_modules.specs.BuiltInEntities.{prelude_name}
use Rattle.cu_modules.specs.Scopes.{Named, meant, scope}
use Rattle.cu_translation.specs.Around.{Callable, Names, Nothing, Referent, SetFunction}
use Rattle.cu_translation.specs.Numbered.{Numbered, all_constructors, all_functions, all_synonyms, all_types, numbered, set_arity}

-- ---- names of the table of names

-- the number of a text in a table of names
abbrev pub id_of : List (List ℕ) → List ℕ → NameId
id_of table text = record { 0 = position_or_len (bytes_eq text) table }

-- ---- functions and constructors

abbrev pub set_referent : Option ℕ → Referent
set_referent (Some count) = SetFunction count
set_referent None = Nothing

abbrev pub constructor_referent : Option Numbered → Referent → Referent
constructor_referent (Some c) other =
    Callable (head.Global (global.Con (record { 0 = c.number }))) c.arity
constructor_referent None other = other

abbrev pub function_referent : Option Numbered → Referent → Referent
function_referent (Some f) other =
    Callable (head.Global (global.Fun (record { 0 = f.number }))) f.arity
function_referent None other = other

-- what the module `owner` declares under a name among functions and constructors
abbrev pub value_of : List Named → List ℕ → List ℕ → Referent
value_of modules owner name =
    constructor_referent (numbered owner name (all_constructors modules))
    (function_referent (numbered owner name (all_functions modules))
    (set_referent (set_arity owner name)))

-- ---- types

abbrev pub synonym_named : Option Numbered → TypeName
synonym_named (Some s) = type.Synonym (record { 0 = s.number })
synonym_named None = type.Data (record { 0 = 0 })

abbrev pub type_named : Option Numbered → TypeName → TypeName
type_named (Some t) other = type.Data (record { 0 = t.number })
type_named None other = other

abbrev pub type_of : List Named → List ℕ → List ℕ → TypeName
type_of modules owner name =
    type_named (numbered owner name (all_types modules))
    (synonym_named (numbered owner name (all_synonyms modules)))

-- ---- fixities

pub record Declared : Type 0 where
  pub operator : List ℕ
  pub fixity : Fixity

abbrev pub declaration : Side → ℕ → Name → Declared
declaration side level name =
    record { operator = name.text; fixity = record { side = side; level = level } }

abbrev pub fixities_by : Item → List Declared
fixities_by (syntax.Fixity at side level operators) = map (declaration side level) operators
fixities_by _ = []

-- the fixity declarations of a module
abbrev pub fixities_in : Named → List Declared
fixities_in m = flat_map fixities_by m.syntax.items

abbrev pub fixity_declared : List ℕ → Option Named → Option Fixity
fixity_declared name None = None
fixity_declared name (Some m) =
    option_map (λ (d : Declared). d.fixity)
    (find (λ (d : Declared). bytes_eq d.operator name) (fixities_in m))

-- the fixity of what the module `owner` declares under a name; that of `:` is built in
abbrev pub fixity_of : List Named → List ℕ → List ℕ → Fixity
fixity_of modules owner name =
    if bytes_eq owner prelude_name && bytes_eq name (codes ":") then fixities.cons
    else unwrap_or (fixity_declared name (find (λ (m : Named). bytes_eq m.name owner) modules))
    undeclared

-- ---- names in a module

abbrev pub no_module : Named
no_module = record { name = []; syntax = record { header = None; items = [] } }

-- the module of a number
abbrev pub module_at : List Named → ℕ → Named
module_at modules number = slice_index_or modules number no_module

-- the entity that a name means, where it is one alone
abbrev pub alone : List Entity → Option Entity
alone (e ∷ []) = Some e
alone _ = None

abbrev pub entity_meant : List Named → ℕ → Space → Name → Option Entity
entity_meant modules number space name =
    alone (meant (scope (interfaces_before modules number) (module_at modules number)) space name)

-- what `means` gives for the entity that a name means, and `otherwise` where it means none
abbrev pub of_entity : {A : Type 0} → (List ℕ → List ℕ → A) → A → Option Entity → A
of_entity means otherwise (Some e) = means e.owner e.name
of_entity means otherwise None = otherwise

-- what names refer to in the module of a number, under a table of names
abbrev pub names_in : List (List ℕ) → List Named → ℕ → Names
names_in table modules number = record {
  value = λ name. of_entity (value_of modules) Nothing (entity_meant modules number Values name);
  fixity =
      λ name. of_entity (fixity_of modules) undeclared (entity_meant modules number Values name);
  type =
      λ name. of_entity (type_of modules) (synonym_named None)
      (entity_meant modules number Types name);
  prelude = value_of modules prelude_name;
  prelude_type = type_of modules prelude_name;
  owner = id_of table (module_at modules number).name;
}
