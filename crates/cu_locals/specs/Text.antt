-- A text of a module.
use Rattle.std.specs.Prelude.{ℕ, List}
use Rattle.cu_names.specs.Texts.{AllDiffer}
use Rattle.cu_names.specs.declared.names.NameId.{NameId}

-- the module of a text, and a table of names
pub record Text : Type 0 where
  pub owner : NameId
  pub names : List (List ℕ)
  pub differ : AllDiffer names

abbrev pub text : (owner : NameId) (names : List (List ℕ)) → AllDiffer names → Text
text owner names differ = record { owner = owner; names = names; differ = differ }
