-- What declarations declare, and what the code gathers of it.
use Rattle.std.specs.Prelude.{◌≡◌, ℕ, Bool, false, List, [], ◌∷◌, ◌++◌, Option, None, Some, IfSome, nat_eq}
use Rattle.std.specs.List.{All}
use Rattle.std.specs.Option.{option_map}
use Rattle.cu_names.specs.Texts.{IsKnown, text_of}
use Rattle.cu_names.specs.declared.names.NameId.{NameId}
use Rattle.cu_syntax.specs.Declarations.{declaration_meaning, declarations_meaning}
use Rattle.cu_syntax.specs.Owners.{NameIsOf}
use Rattle.cu_syntax.specs.Syntax.{Name}
use Rattle.cu_syntax.specs.declared.declarations.Declaration.{Declaration}
use Rattle.cu_uses.specs.declared.block.Block.{Block}
use Rattle.cu_uses.specs.Binders.{Declared, declared_in, declared_names, declared_once, names_by, signed, signed_by}
use Rattle.cu_uses.specs.Demands.{Demand, block_demands}
use Rattle.cu_uses.specs.Gathered.{Adds, names_meaning}

unfoldable pub declares : List (List ℕ) → Declaration → Declared
declares names d = names_by (declaration_meaning names d)

unfoldable pub signs : List (List ℕ) → Declaration → List Name
signs names d = signed_by (declaration_meaning names d)

unfoldable pub block_declares : List (List ℕ) → List Declaration → List Declared
block_declares names ds = declared_in (declarations_meaning names ds)

unfoldable pub block_signs : List (List ℕ) → List Declaration → List Name
block_signs names ds = signed (declarations_meaning names ds)

unfoldable pub block_asks : List (List ℕ) → List Declaration → List Demand
block_asks names ds = block_demands (declarations_meaning names ds)

abbrev pub is_function : Option NameId → NameId → Bool
is_function None text = false
is_function (Some function) text = nat_eq function.0 text.0

abbrev pub function_text : List (List ℕ) → Block → Option (List ℕ)
function_text names b = option_map (text_of names) b.function

-- A block's names are of a module, and a table has them.
pub record IsOfModule (owner : NameId) (names : List (List ℕ)) (b : Block) : Type 0 where
  pub once : All (NameIsOf owner names) b.once.items
  pub function : IfSome b.function (IsKnown names)

-- What a block gathered grew by these declarations and these names of signatures.
pub record Gathers (owner : NameId) (names : List (List ℕ)) (before : Block)
    (declared : List Declared) (signs : List Name) (after : Block) : Type 0 where
  pub names_added : Adds owner names before.names.items (declared_names declared) after.names.items
  pub signed_added : Adds owner names before.signed.items signs after.signed.items
  pub keeps : IsOfModule owner names before → IsOfModule owner names after
  pub once : IsOfModule owner names before → (later : List Declared)
      → names_meaning names before.once.items
      ++ declared_once (function_text names before) (declared ++ later)
      ≡ names_meaning names after.once.items ++ declared_once (function_text names after) later

-- What a block gathered is what these declarations and these names of signatures are.
pub record IsBlockOf (owner : NameId) (names : List (List ℕ)) (declared : List Declared)
    (signs : List Name) (b : Block) : Type 0 where
  pub is_names : names_meaning names b.names.items ≡ declared_names declared
  pub is_once : names_meaning names b.once.items ≡ declared_once None declared
  pub is_signed : names_meaning names b.signed.items ≡ signs
  pub names_owned : All (NameIsOf owner names) b.names.items
  pub signed_owned : All (NameIsOf owner names) b.signed.items
  pub owned : IsOfModule owner names b

pub record IsEmpty (b : Block) : Type 0 where
  pub no_name : b.names.items ≡ []
  pub no_rule : b.once.items ≡ []
  pub no_function : b.function ≡ None
  pub no_signature : b.signed.items ≡ []
