-- What holds of a search for the functions that one reaches.
use Rattle.std.specs.Prelude.{◌≡◌, ℕ, ◌+◌, ◌<◌, ◌≤◌, ◌⊎◌, Bool, true, false, List, [], ◌∷◌, ◌++◌, Some, length, set, slice_get}
use Rattle.cu_calculus.specs.declared.FunId.{FunId}
use Rattle.cu_cycles.specs.Graph.{Edge, Graph}
use Rattle.cu_lift.specs.declared.walks.Found.{Found}
use Rattle.cu_lift.specs.declared.walks.Spread.{Spread}

-- a walk along edges; the list has the functions that it leaves
abbrev pub Steps : Graph → ℕ → List FunId → ℕ → Type 0
Steps g u [] w = u ≡ w
Steps g u (f ∷ fs) w = (f.0 ≡ u) × (v : ℕ) × Edge g u v × Steps g v fs w

-- how many weren't visited yet
abbrev pub unmet : List Bool → ℕ
unmet [] = 0
unmet (true ∷ met) = unmet met
unmet (false ∷ met) = unmet met + 1

-- what was found was found from something before it
pub record Linked (g : Graph) (found : List Found) (i : ℕ) (f : Found) : Type 0 where
  pub before : f.from < i
  pub source : Found
  pub is_there : slice_get found f.from ≡ Some source
  pub edge : Edge g source.function f.function

pub record Trails (g : Graph) (found : List Found) (met : List Bool) : Type 0 where
  pub sized : length met ≡ length g
  pub link : (i : ℕ) (f : Found) → slice_get found i ≡ Some f → 0 < i → Linked g found i f
  pub met_found : (v : ℕ) → slice_get met v ≡ Some true
      → (i : ℕ) × (f : Found) × (slice_get found i ≡ Some f) × (f.function ≡ v)
  pub found_met : (i : ℕ) (f : Found) → slice_get found i ≡ Some f
      → slice_get met f.function ≡ Some true
  pub room : length found + unmet met ≤ length g

abbrev pub IsTrail : Graph → Spread → Type 0
IsTrail g s = Trails g s.found.items s.met.items

-- all that the function at a place mentions was met
abbrev pub IsDone : Graph → Spread → ℕ → Type 0
IsDone g s i = (f : Found) (w : ℕ) → slice_get s.found.items i ≡ Some f → Edge g f.function w
    → slice_get s.met.items w ≡ Some true

pub record Grows (old new : Spread) : Type 0 where
  pub found : (more : List Found) × (new.found.items ≡ old.found.items ++ more)
  pub met : (v : ℕ) → slice_get old.met.items v ≡ Some true → slice_get new.met.items v ≡ Some true

-- a function is met: for the first time, or again
pub data Meeting (old new : Spread) (target from : ℕ) : Type 0 where
  again : slice_get old.met.items target ≡ Some true → new.found.items ≡ old.found.items
      → new.met.items ≡ old.met.items
      → Meeting old new target from
  first : slice_get old.met.items target ≡ Some false
      → new.found.items ≡ old.found.items ++ record { function = target; from = from } ∷ []
      → new.met.items ≡ set old.met.items target true
      → Meeting old new target from

-- a search that has found its start alone
pub record Begins (start count : ℕ) (s : Spread) : Type 0 where
  pub found : s.found.items ≡ record { function = start; from = 0 } ∷ []
  pub met : s.met.items ≡ set (Rattle.std.specs.Prelude.replicate count false) start true
