-- Rows of patterns, grouped by what they demand at a position.
use Rattle.std.specs.Prelude.{◌≡◌, ℕ, suc, Bool, Option, None, Some, List, [], ◌∷◌, if◌then◌else◌, filter, slice_get}
use Rattle.std.specs.declared.alloc.Global.{Global}
use Rattle.std.specs.declared.vec.Vec.{Vec}
use Rattle.indexmap.specs.IndexMap.{get}
use Rattle.cu_calculus.specs.Choose as calculus
use Rattle.cu_calculus.specs.Choose.{Demand}
use Rattle.cu_calculus.specs.declared.Lit.TheVariants as lit
use Rattle.cu_deftree.specs.Inside.RowsOf.{demands_choice}
use Rattle.cu_deftree.specs.Rows.{Row, demand_at}
use Rattle.cu_deftree.specs.contracts.patterns.KeyPartialEq.TheImpl.{eq-value}
use Rattle.cu_deftree.specs.declared.groups.Groups.{Groups}
use Rattle.cu_deftree.specs.declared.patterns.Choice.{Choice}
use Rattle.cu_deftree.specs.declared.patterns.Choice.TheVariants as choice
use Rattle.cu_deftree.specs.declared.patterns.Key.{Key}
use Rattle.cu_deftree.specs.declared.patterns.Key.TheVariants as key

-- the demand of the rows that go on into the branch of this choice
abbrev pub choice_demand : Choice → Demand
choice_demand (choice.Constructor c) = calculus.AConstructor c
choice_demand (choice.Literal l) = calculus.ALiteral l

-- the demand that this choice is read off
abbrev pub demanded_choice : Option Choice → Demand
demanded_choice None = calculus.Nothing
demanded_choice (Some c) = choice_demand c

-- the key under which the indices of a choice are kept
abbrev pub key_of : Choice → Key
key_of (choice.Constructor c) = key.Constructor c.0
key_of (choice.Literal (lit.Int n)) = key.Integer n
key_of (choice.Literal (lit.Char c)) = key.Character c

-- the indices of the rows that pass a test, where the first row has the index n
abbrev pub indices_of : (Row → Bool) → ℕ → List Row → List ℕ
indices_of test n [] = []
indices_of test n (row ∷ rows) =
    if test row then n ∷ indices_of test (suc n) rows else indices_of test (suc n) rows

-- the rows with these indices; what is no index of a row counts for nothing
abbrev pub picked : List Row → List ℕ → List Row
picked rows [] = []
picked rows (n ∷ ns) =
    elim (slice_get rows n) [ Some row ↦ row ∷ picked rows ns | None ↦ picked rows ns ]

-- The rows with these indices are those that demand the choice c at position k, in order.
pub record AreAt (k : ℕ) (c : Choice) (ns : List ℕ) (rows : List Row) : Type 0 where
  pub same : picked rows ns ≡ filter (λ row. demands_choice c (demand_at k row)) rows

-- the indices that a map held under a key, or none
abbrev pub found_indices : Option (Vec ℕ Global) → List ℕ
found_indices None = []
found_indices (Some found) = found.items

-- the indices in the group of a choice
abbrev pub indices : Groups → Choice → List ℕ
indices groups c = found_indices (get eq-value.it groups.indices (key_of c))
