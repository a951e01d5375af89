-- What the names of top level refer to in a module, under a table of names.
use Rattle.std.specs.Prelude.{◌≡◌, ℕ, ◌<◌, List, codes, length}
use Rattle.cu_modules.specs.ScopeAnswers.{AreScopes}
use Rattle.cu_modules.specs.Scopes.{Named}
use Rattle.cu_toplevel.specs.declared.built_in.BuiltInType.{BuiltInType}
use Rattle.cu_toplevel.specs.declared.built_in.BuiltInType.TheVariants as built_in
use Rattle.cu_toplevel.specs.declared.top_names.TopNames.{TopNames}
use Rattle.cu_toplevel.specs.EntityTables.{AreEntities}
use Rattle.cu_translation.specs.Around.{Names, tuple_name}
use Rattle.cu_translation.specs.ModuleNames.{names_in}

-- the name in the Prelude of a type that the translation names
abbrev pub type_text : BuiltInType → List ℕ
type_text built_in.List = codes "[]"
type_text (built_in.Tuple n) = tuple_name n
type_text built_in.Int = codes "Int"
type_text built_in.Char = codes "Char"
type_text built_in.Bool = codes "Bool"

-- The code's `TopNames` tells of names what they refer to in a module, and its owner is the one to
-- which places belong.
pub record TellsNames (names : List (List ℕ)) (top : Names) (t : TopNames) : Type 0 where
  pub modules : List Named
  pub entities : AreEntities names modules t.entities.now
  pub scopes : AreScopes names modules t.scopes.now
  pub table : t.names.now ≡ names
  pub within : t.«module» < length modules
  pub is : top ≡ record (names_in names modules t.«module») { owner = t.owner }
