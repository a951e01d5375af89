-- The search for the local functions that capture a variable.
use Rattle.std.specs.Prelude.{◌≡◌, ◌↔◌, ℕ, ◌+◌, ◌<◌, ◌≤◌, Bool, true, false, List, [], ◌∷◌, Option, None, Some, cond, length, set, slice_get}
use Rattle.cu_kernel.specs.Captures.{Captures, rules_use}
use Rattle.cu_kernel.specs.LocalKernel.{LocalFunction}
use Rattle.cu_kernel.specs.declared.local.LocalHead.{LocalHead}
use Rattle.cu_kernel.specs.declared.local.LocalHead.TheVariants as head

abbrev pub truth : Option Bool → Bool
truth None = false
truth (Some b) = b

-- whether the local function at a place is met
abbrev pub met_at : List Bool → ℕ → Bool
met_at met k = truth (slice_get met k)

-- whether a head is a local function that is met
abbrev pub is_met : List Bool → LocalHead → Bool
is_met met (head.Local k) = met_at met k
is_met met (head.Global h) = false

-- how many local functions aren't met
abbrev pub unmet : List Bool → ℕ
unmet [] = 0
unmet (m ∷ ms) = unmet ms + cond m 0 1

-- all local functions that are met capture the variable
abbrev pub AreSound : List LocalFunction → ℕ → List Bool → Type 0
AreSound locals v met = (k : ℕ) → met_at met k ≡ true → Captures locals k v

-- from a place on, each local function is met that uses the variable, or a local function that is
-- met
abbrev pub AreClosed : List LocalFunction → ℕ → List Bool → ℕ → Type 0
AreClosed locals v met place = (k : ℕ) (f : LocalFunction) → place ≤ k → slice_get locals k ≡ Some f
    → rules_use (is_met met) v f.rules ≡ true → met_at met k ≡ true

-- one step at the local function at place k: it is met for the first time, or all stays as it is
pub data Meeting (locals : List LocalFunction) (v k : ℕ) (old new : List Bool)
    (first : Bool) : Type 0 where
  stays : first ≡ false → new ≡ old
      → ((f : LocalFunction) → slice_get locals k ≡ Some f → rules_use (is_met old) v f.rules ≡ true
      → met_at old k ≡ true)
      → Meeting locals v k old new first
  meets : first ≡ true → slice_get old k ≡ Some false → new ≡ set old k true
      → (f : LocalFunction) × (slice_get locals k ≡ Some f)
      × (rules_use (is_met old) v f.rules ≡ true)
      → Meeting locals v k old new first

-- one round over the local functions, from the last one down to a place
pub record Round (locals : List LocalFunction) (v place : ℕ) (old new : List Bool)
    (more : Bool) : Type 0 where
  pub sized : length new ≡ length old
  pub sound : AreSound locals v old → AreSound locals v new
  pub closed : more ≡ false → (new ≡ old) × AreClosed locals v new place
  pub fewer : unmet new ≤ unmet old
  pub less : more ≡ true → unmet new < unmet old

-- the local functions that capture the variable are met, and no others
abbrev pub AreCapturing : List LocalFunction → ℕ → List Bool → Type 0
AreCapturing locals v met = (k : ℕ) → met_at met k ≡ true ↔ Captures locals k v
