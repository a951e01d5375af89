-- Tables of fixities, under a table of names.
use Rattle.indexmap.specs.IndexMap.{get}
use Rattle.std.specs.Prelude.{◌≡◌, ℕ, Bool, List, Option, None, Some, find, is_some, option_map}
use Rattle.std.specs.Str.{bytes_eq}
use Rattle.cu_fixity.specs.declared.fixity.Fixity.{Fixity}
use Rattle.cu_modules.specs.Scopes.{Named}
use Rattle.cu_names.specs.contracts.names.NameIdPartialEq.TheImpl.{eq-value}
use Rattle.cu_names.specs.declared.names.NameId.{NameId}
use Rattle.cu_names.specs.Texts.{IsKnown, text_of}
use Rattle.cu_toplevel.specs.declared.fixities.FixityTable.{FixityTable}
use Rattle.cu_toplevel.specs.declared.fixities.ModuleFixities.{ModuleFixities}
use Rattle.cu_translation.specs.ModuleNames.{Declared, fixity_declared}

abbrev pub is_declared : List ℕ → Declared → Bool
is_declared name d = bytes_eq d.operator name

abbrev pub is_named : List ℕ → Named → Bool
is_named name m = bytes_eq m.name name

-- the fixity that the first declaration of an operator gives it, if there is one
abbrev pub first_declared : List ℕ → List Declared → Option Fixity
first_declared name ds = option_map (λ (d : Declared). d.fixity) (find (is_declared name) ds)

-- Look-ups give each operator the fixity of its first declaration.
pub record GivesFixities
    (names : List (List ℕ)) (ds : List Declared) (found : NameId → Option Fixity) : Type 0
  where
    pub each : (id : NameId) → IsKnown names id → found id ≡ first_declared (text_of names id) ds

-- The fixities that the code has of a module are those of these declarations.
pub record Declares (names : List (List ℕ)) (ds : List Declared) (f : ModuleFixities) : Type 0 where
  pub gives : GivesFixities names ds (get eq-value.it f.of)

abbrev pub fixity_there : Option ModuleFixities → NameId → Option Fixity
fixity_there None id = None
fixity_there (Some f) id = get eq-value.it f.of id

-- Look-ups give, by the name of a module, the fixities of the first module of that name.
pub record GivesModules
    (names : List (List ℕ)) (modules : List Named) (found : NameId → Option ModuleFixities) : Type 0
  where
    pub there : (owner : NameId) → IsKnown names owner
        → is_some (found owner) ≡ is_some (find (is_named (text_of names owner)) modules)
    pub each : (owner id : NameId) → IsKnown names owner → IsKnown names id
        → fixity_there (found owner) id
        ≡ fixity_declared (text_of names id) (find (is_named (text_of names owner)) modules)

-- The table of fixities is that of these modules.
pub record AreFixities (names : List (List ℕ)) (modules : List Named)
    (t : FixityTable) : Type 0 where
  pub gives : GivesModules names modules (get eq-value.it t.modules)
