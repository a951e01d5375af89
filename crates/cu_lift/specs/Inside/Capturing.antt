-- How captured variables are found.
use Rattle.std.specs.Prelude.{◌≡◌, ◌↔◌, ℕ, ◌+◌, ◌*◌, ◌<◌, ◌≤◌, ◌⊎◌, IsTrue, Bool, true, false, List, [], ◌∷◌, ◌++◌, Some, flat_map, length, map, set, slice_get}
use Rattle.cu_calculus.specs.Valid.{all_variables, variables_of}
use Rattle.cu_kernel.specs.Captures.{are_rising}
use Rattle.cu_kernel.specs.LocalKernel.{LocalRule}
use Rattle.cu_kernel.specs.LocalKernelOf.{local_rule_meaning}
use Rattle.cu_kernel.specs.LocalTerm as local
use Rattle.cu_kernel.specs.LocalTerm.{LocalAlternatives, LocalTerm, LocalTerms}
use Rattle.cu_kernel.specs.declared.local.LocalHead.{LocalHead}
use Rattle.cu_kernel.specs.declared.local.LocalHead.TheVariants as head
use Rattle.cu_kernel.specs.declared.local.LocalFunction.{LocalFunction}
use Rattle.cu_lift.specs.Groups.{IsIn}
use Rattle.cu_lift.specs.Inside.Ordering.{IsAt, Row}
use Rattle.cu_lift.specs.Inside.Trail.{unmet}
use Rattle.cu_lift.specs.declared.captures.Local.{Local}
use Rattle.cu_lift.specs.declared.captures.Part.{Part}
use Rattle.cu_lift.specs.declared.captures.Part.TheVariants.{Binds, Calls, Uses}
use Rattle.cu_lift.specs.declared.captures.Spreading.{Spreading}

abbrev pub bound : List ℕ → List Part
bound xs = map Binds xs

abbrev pub head_parts : LocalHead → List Part
head_parts (head.Global h) = []
head_parts (head.Local k) = Calls k ∷ []

-- what a term uses, calls and binds, in the order in which it stands
abbrev mutual
  pub parts : LocalTerm → List Part
  parts (local.Variable x) = Uses x ∷ []
  parts (local.Literal l) = []
  parts (local.Whole h ts) = head_parts h ++ all_parts ts
  parts (local.Part h ts) = head_parts h ++ all_parts ts
  parts (local.Apply f a) = parts f ++ parts a
  parts (local.Let x a b) = Binds x ∷ (parts a ++ parts b)
  parts (local.Free x t) = Binds x ∷ parts t
  parts (local.Or a b) = parts a ++ parts b
  parts (local.Case mode a alternatives) = parts a ++ alternative_parts alternatives

  pub all_parts : LocalTerms → List Part
  all_parts local.NoTerm = []
  all_parts (local.MoreTerms t ts) = parts t ++ all_parts ts

  pub alternative_parts : LocalAlternatives → List Part
  alternative_parts local.NoAlternative = []
  alternative_parts (local.MoreAlternatives p t alternatives) =
      bound (variables_of p) ++ (parts t ++ alternative_parts alternatives)

abbrev pub rule_parts : LocalRule → List Part
rule_parts rule = bound (all_variables rule.params) ++ parts rule.body

abbrev pub rules_parts : List LocalRule → List Part
rules_parts rules = flat_map rule_parts rules

-- ---- what the code keeps of a local function

pub record IsLocal (ps : List Part) (l : Local) : Type 0 where
  pub uses : (x : ℕ) → IsIn l.uses.keys x ↔ IsIn ps (Uses x)
  pub binds : (x : ℕ) → IsIn l.binds.keys x ↔ IsIn ps (Binds x)
  pub calls : (k : ℕ) → IsIn l.calls.items k ↔ IsIn ps (Calls k)

-- a variable that a local function uses and doesn't bind
abbrev pub Owns : Local → ℕ → Type 0
Owns l x = IsIn l.uses.keys x × (IsIn l.binds.keys x → ⊥)

-- the rules of local functions
abbrev pub AreLocals : List LocalFunction → List Local → Type 0
AreLocals functions locals = (k : ℕ) (f : LocalFunction) (l : Local)
    → slice_get functions k ≡ Some f → slice_get locals k ≡ Some l
    → IsLocal (rules_parts (map local_rule_meaning f.rules.items)) l

-- what some local functions own is among the variables
abbrev pub AllOwned : List Local → List ℕ → Type 0
AllOwned locals variables = (k x : ℕ) (l : Local) → slice_get locals k ≡ Some l → Owns l x
    → IsIn variables x

-- A local function is met by a variable: it owns it, or it calls one that is met, and doesn't bind
-- it.
pub data Meets (locals : List Local) (x : ℕ) : ℕ → Type 0 where
  own : (k : ℕ) (l : Local) → slice_get locals k ≡ Some l → Owns l x → Meets locals x k
  through : (k h : ℕ) (l : Local) → slice_get locals k ≡ Some l → IsIn l.calls.items h
      → (IsIn l.binds.keys x → ⊥) → Meets locals x h
      → Meets locals x k

-- for each local function those that call it
pub record AreUsers (locals : List Local) (n : ℕ) (users : List Row) : Type 0 where
  pub sized : length users ≡ length locals
  pub calls : (h k : ℕ) → IsAt users h k → (l : Local) × (slice_get locals k ≡ Some l)
      × IsIn l.calls.items h
  pub all : (h k : ℕ) (l : Local) → k < n → h < length locals → slice_get locals k ≡ Some l
      → IsIn l.calls.items h → IsAt users h k

-- the first of some calls of a local function
pub record Adds (calls : List ℕ) (k : ℕ) (old new : List Row) : Type 0 where
  pub sized : length new ≡ length old
  pub only : (h j : ℕ) → IsAt new h j → IsAt old h j ⊎ ((k ≡ j) × IsIn calls h)
  pub keeps : (h j : ℕ) → IsAt old h j → IsAt new h j
  pub all : (h : ℕ) → IsIn calls h → h < length old → IsAt new h k

-- ---- a search for the functions that a variable meets

-- all callers of a function are met, but those that bind the variable
abbrev pub IsSettled : List Local → ℕ → List Bool → ℕ → Type 0
IsSettled locals x met h = (k : ℕ) (l : Local) → slice_get locals k ≡ Some l → IsIn l.calls.items h
    → (IsIn l.binds.keys x → ⊥)
    → slice_get met k ≡ Some true

pub record Spreads (locals : List Local) (x : ℕ) (hand : List ℕ) (s : Spreading) : Type 0 where
  pub sized : length s.met.items ≡ length locals
  pub sound : (k : ℕ) → slice_get s.met.items k ≡ Some true → Meets locals x k
  pub pending : (k : ℕ) → IsIn s.pending.items k → slice_get s.met.items k ≡ Some true
  pub settled : (h : ℕ) → slice_get s.met.items h ≡ Some true
      → IsIn s.pending.items h ⊎ (IsIn hand h ⊎ IsSettled locals x s.met.items h)

-- a bound on the steps that the search for capturing functions still takes
abbrev pub left : Spreading → ℕ
left s = 2 * unmet s.met.items + length s.pending.items

-- a function is met: for the first time, or again
pub data Met (k : ℕ) (old new : Spreading) : Type 0 where
  again : slice_get old.met.items k ≡ Some true → new.met.items ≡ old.met.items
      → new.pending.items ≡ old.pending.items → Met k old new
  first : slice_get old.met.items k ≡ Some false → new.met.items ≡ set old.met.items k true
      → new.pending.items ≡ old.pending.items ++ k ∷ [] → Met k old new

abbrev pub Stays : Spreading → Spreading → Type 0
Stays old new = (k : ℕ) → slice_get old.met.items k ≡ Some true
    → slice_get new.met.items k ≡ Some true

-- the first local functions that own a variable are met
abbrev pub AreSeeded : List Local → ℕ → ℕ → Spreading → Type 0
AreSeeded locals x n s = (k : ℕ) (l : Local) → k < n → slice_get locals k ≡ Some l → Owns l x
    → slice_get s.met.items k ≡ Some true

pub record AreMet (locals : List Local) (x : ℕ) (met : List Bool) : Type 0 where
  pub sized : length met ≡ length locals
  pub exact : (k : ℕ) → slice_get met k ≡ Some true ↔ Meets locals x k

-- ---- the sets

-- a number is pushed to the first rows that are marked
pub record Pushes (met : List Bool) (x n : ℕ) (old new : List Row) : Type 0 where
  pub sized : length new ≡ length old
  pub marked : (k : ℕ) (row : Row) → k < n → slice_get met k ≡ Some true
      → slice_get new k ≡ Some row
      → (before : Row) × (slice_get old k ≡ Some before) × (row.items ≡ before.items ++ x ∷ [])
  pub unmarked : (k : ℕ) (row : Row) → k < n → slice_get met k ≡ Some false
      → slice_get new k ≡ Some row
      → (before : Row) × (slice_get old k ≡ Some before) × (row.items ≡ before.items)
  pub others : (k : ℕ) → n ≤ k → slice_get new k ≡ slice_get old k

-- the sets of the variables that are gone through, while others are left
pub record SetsTo (locals : List Local) (variables : List ℕ) (sets : List Row) : Type 0 where
  pub sized : length sets ≡ length locals
  pub rising : (k : ℕ) (set : Row) → slice_get sets k ≡ Some set → IsTrue (are_rising set.items)
  pub below : (k x y : ℕ) → IsAt sets k x → IsIn variables y → x < y
  pub sound : (k x : ℕ) → IsAt sets k x → Meets locals x k
  pub all : (k x : ℕ) → Meets locals x k → IsAt sets k x ⊎ IsIn variables x
