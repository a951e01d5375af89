-- What the numbers of a function are.
use Rattle.std.specs.HashMap.{get}
use Rattle.std.specs.Prelude.{◌≡◌, Bool, List, length, map}
use Rattle.std.specs.List.{position}
use Rattle.cu_lex.specs.Located as located
use Rattle.cu_translation.specs.declared.local_names.Binder as code
use Rattle.cu_translation.specs.declared.position.Position.{Position}
use Rattle.cu_translation.specs.LocalNames.{Binder}
use Rattle.cu_translation.specs.Meaning.{binder_meaning}
use Rattle.cu_translation.specs.contracts.local_names.BinderPartialEq.TheImpl as binders
use Rattle.cu_translation.specs.contracts.position.PositionPartialEq.TheImpl as positions
use Rattle.cu_sites.specs.declared.numbers.BinderTable.{BinderTable}
use Rattle.cu_sites.specs.declared.numbers.Numbers.{Numbers}
use Rattle.cu_sites.specs.declared.numbers.PlaceTable.{PlaceTable}
use Rattle.cu_locals.specs.Places.{positions_meaning}

-- the variables that those of the code stand for
abbrev pub binders_meaning : List code.Binder → List Binder
binders_meaning found = map binder_meaning found

-- whether two variables of the code are equal
abbrev pub same_binder : code.Binder → code.Binder → Bool
same_binder b c = binders.eq-value.it b c

-- whether two places of the code are equal
abbrev pub same_position : Position → Position → Bool
same_position p q = positions.eq-value.it p q

-- A table of the code has counted these variables, each with its place among them as its number.
pub record IsBinderTable (keys : List code.Binder) (s : BinderTable) : Type 0 where
  pub counted : s.count ≡ length keys
  pub found : (b : code.Binder)
      → get binders.eq-value.it s.numbers b ≡ position (same_binder b) keys

-- A table of the code has counted these places of local functions, each with its place among them
-- as its number.
pub record IsPlaceTable (keys : List Position) (s : PlaceTable) : Type 0 where
  pub counted : s.count ≡ length keys
  pub found : (p : Position)
      → get positions.eq-value.it s.numbers p ≡ position (same_position p) keys

-- The numbers of the code are those of these variables and these local functions, each by its place
-- among them.
pub record HasNumbers (binders : List Binder) (functions : List located.Position) (n : Numbers)
    : Type 0 where
  pub binder_keys : List code.Binder
  pub place_keys : List Position
  pub variables_are : binders_meaning binder_keys ≡ binders
  pub functions_are : positions_meaning place_keys ≡ functions
  pub variables_counted : IsBinderTable binder_keys n.variables
  pub functions_counted : IsPlaceTable place_keys n.functions
