-- What the dependencies of a text are.
use Rattle.indexmap.specs.IndexSet.{IndexSet}
use Rattle.std.specs.Prelude.{◌≡◌, ℕ, Bool, true, Contains, List, [], Option, None, Some, map, nat_eq}
use Rattle.std.specs.Prelude.{slice_get}
use Rattle.std.specs.List.{list_any}
use Rattle.cu_lex.specs.Located.{Position}
use Rattle.cu_translation.specs.Dependencies.{Definition, definitions, depends}
use Rattle.cu_translation.specs.LocalNames.{Binder}
use Rattle.cu_translation.specs.Numbering.{binder_number}
use Rattle.cu_translation.specs.Sites.{Node}
use Rattle.cu_sites.specs.declared.dependencies.Dependencies.{Dependencies}
use Rattle.cu_sites.specs.declared.relations.Relation.{Relation}
use Rattle.cu_sites.specs.Numbered.{HasNumbers, binders_meaning}

-- ---- relations between numbers

-- whether a number is in a list
abbrev pub is_in : List ℕ → ℕ → Bool
is_in xs k = list_any (nat_eq k) xs

-- the elements of a set, and none where there is no set
abbrev pub keys_in : {S : Type 0} → Option (IndexSet ℕ S) → List ℕ
keys_in None = []
keys_in (Some set) = set.keys

-- the numbers to which a number is related, one after another
abbrev pub row : Relation → ℕ → List ℕ
row r i = keys_in (slice_get r.rows.items i)

-- whether a number is related to another
abbrev pub relates : Relation → ℕ → ℕ → Bool
relates r i k = is_in (row r i) k

-- ---- dependencies

-- the variable that is defined
abbrev pub is_defined : Definition → Binder
is_defined d = d.variable

-- The dependencies that the code has are those of the variables of a text: between their numbers,
-- and between no others.
pub record AreDependencies (nodes : List Node) (d : Dependencies) : Type 0 where
  pub binders : List Binder
  pub functions : List Position
  pub numbers : HasNumbers binders functions d.numbers
  pub variables_are : binders_meaning d.variables.items ≡ map is_defined (definitions nodes)
  pub exact : (x y : Binder)
      → relates d.needs (binder_number binders x) (binder_number binders y) ≡ depends nodes x y
  pub between : (i k : ℕ) → relates d.needs i k ≡ true
      → (y : Binder) × Contains binders y × (k ≡ binder_number binders y)
