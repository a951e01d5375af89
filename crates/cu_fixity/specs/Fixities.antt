-- The fixities that are declared.
use Rattle.std.specs.Prelude.{◌≡◌, Bool, List, if◌then◌else◌, nat_eq}
use Rattle.std.specs.Map.{lookup}
use Rattle.std.specs.Option.{unwrap_or}
use Rattle.cu_names.specs.declared.names.NameId.{NameId}
use Rattle.cu_fixity.specs.declared.fixity.Fixity.{Fixity}
use Rattle.cu_syntax.specs.declared.items.Side.TheVariants.{Right}
use Rattle.cu_fixity.specs.Pieces.{undeclared}

-- the text of `:`, and operators with the fixities that are declared of them
pub record Table : Type 0 where
  pub colon : NameId
  pub declared : List (NameId × Fixity)

abbrev pub same : NameId → NameId → Bool
same a b = nat_eq a.0 b.0

-- the fixity of `:`, the constructor that stands between a list's first element and the others
abbrev pub cons : Fixity
cons = record { side = Right; level = 5 }

-- the fixity of `:`, or that of an operator without a declaration
abbrev pub built_in : NameId → NameId → Fixity
built_in colon operator = if same operator colon then cons else undeclared

-- the fixity of an operator
abbrev pub fixity_in : Table → NameId → Fixity
fixity_in table operator = if same operator table.colon then cons
    else unwrap_or (lookup (same operator) table.declared) undeclared

-- A table after one declaration: the operator has this fixity, unless it is `:`, and each other
-- operator has the fixity that it had.
pub record Declares (before : Table) (declared : NameId) (fixity : Fixity)
    (after : Table) : Type 0 where
  pub colon : after.colon ≡ before.colon
  pub fixities : (operator : NameId) → fixity_in after operator ≡
      (if same operator before.colon then cons else if same declared operator then fixity
      else fixity_in before operator)
