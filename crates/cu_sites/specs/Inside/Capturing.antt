-- What local functions use, bind and capture, by numbers.
use Rattle.std.specs.Prelude.{◌≡◌, ◌↔◌, ◌<◌, ℕ, suc, true, List, [], ◌∷◌, Option, None, Some, length, map}
use Rattle.std.specs.List.{flat_map}
use Rattle.cu_lex.specs.Located.{Position}
use Rattle.cu_translation.specs.LocalNames.{Binder, Local, LocalFunction, LocalVariable}
use Rattle.cu_translation.specs.Numbering.{binder_number, function_number}
use Rattle.cu_sites.specs.Depending.{relates, row}
use Rattle.cu_sites.specs.declared.captures.Graph.{Graph}
use Rattle.cu_sites.specs.declared.relations.Relation.{Relation}
use Rattle.cu_sites.specs.Inside.Relating.{Gains, Holds, Pair, Reaches, pair}
use Rattle.cu_sites.specs.Inside.Using.{Usage}

-- ---- what a function uses and binds

abbrev pub use_pairs : List Binder → List Position → Position → Local → List Pair
use_pairs binders functions f (LocalVariable b) =
    pair (binder_number binders b) (function_number functions f) ∷ []
use_pairs binders functions f (LocalFunction at count) = []

abbrev pub call_pairs : List Position → Position → Local → List Pair
call_pairs functions f (LocalVariable b) = []
call_pairs functions f (LocalFunction at count) =
    pair (function_number functions at) (function_number functions f) ∷ []

abbrev pub bound_pair : List Binder → List Position → Position → Binder → Pair
bound_pair binders functions f b = pair (binder_number binders b) (function_number functions f)

abbrev pub bound_pairs : List Binder → List Position → Position → List Binder → List Pair
bound_pairs binders functions f bs = map (bound_pair binders functions f) bs

-- the pairs of the local function in which something stands, and none where it stands in no local
-- function
abbrev pub in_one : Option Position → (Position → List Pair) → List Pair
in_one None pairs = []
in_one (Some f) pairs = pairs f

abbrev pub uses_in : List Binder → List Position → Usage → List Pair
uses_in binders functions u =
    in_one u.function (λ f. flat_map (use_pairs binders functions f) u.used)

abbrev pub binds_in : List Binder → List Position → Usage → List Pair
binds_in binders functions u = in_one u.function (λ f. bound_pairs binders functions f u.declared)

abbrev pub calls_in : List Position → Usage → List Pair
calls_in functions u = in_one u.function (λ f. flat_map (call_pairs functions f) u.used)

-- These pairs of what functions use, bind and call were noted.
pub record Notes (uses binds calls : List Pair) (old new : Graph) : Type 0 where
  pub uses_are : Gains uses old.uses new.uses
  pub binds_are : Gains binds old.binds new.binds
  pub calls_are : Gains calls old.users new.users

-- All that stands in the local functions of a text was noted.
pub record IsGraph (binders : List Binder) (functions : List Position) (usages : List Usage)
    (g : Graph) : Type 0 where
  pub uses_are : Holds (suc (length binders)) (flat_map (uses_in binders functions) usages) g.uses
  pub binds_are : Holds (suc (length binders)) (flat_map (binds_in binders functions) usages)
      g.binds
  pub calls_are : Holds (suc (length functions)) (flat_map (calls_in functions) usages) g.users

-- ---- captured variables

-- The first n functions are related to the variables that they capture.
pub record IsCaptured (n : ℕ) (g : Graph) (c : Relation) : Type 0 where
  pub sized : length c.rows.items ≡ n
  pub exact : (f v : ℕ) → f < n
      → (relates c f v ≡ true) ↔ Reaches g.users (row g.uses v) (row g.binds v) f

-- The functions are related to the variables that they capture where this is what stands in a text.
pub record CapturedIn (binders : List Binder) (functions : List Position) (usages : List Usage)
    (c : Relation) : Type 0 where
  pub graph : Graph
  pub is_graph : IsGraph binders functions usages graph
  pub captured : IsCaptured (suc (length functions)) graph c
