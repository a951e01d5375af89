-- What is asked of each variable of a top-level function, and of the other parts of it.
use Rattle.std.specs.Prelude.{◌≡◌, ℕ, ◌<◌, ◌⊎◌, Bool, true, not, ◌&&◌, ◌||◌, List, Some, IsTrue, slice_get}
use Rattle.std.specs.BTreeMap.{is_at}
use Rattle.std.specs.List.{list_all, list_any}
use Rattle.std.specs.Ordering.{nat_cmp}
use Rattle.cu_calculus.specs.Valid.{all_variables, holds, is_arity, is_linear}
use Rattle.cu_kernel.specs.Captures.{Captures, IsFree}
use Rattle.cu_kernel.specs.LocalKernel.{LocalFunction, LocalRule, TopFunction}
use Rattle.cu_kernel.specs.LocalValid.{IsScoped, all_rules, fits_arity, fits_local, local_binders, local_heads, outer_binders, rule_passes, rules_of}
use Rattle.cu_parts.specs.Inside.Capturing.{met_at}

-- whether the numbers of parameters of a top-level function and its local functions are right
abbrev pub arities_fit : TopFunction → Bool
arities_fit f = is_arity f.arity && fits_arity f.arity f.body && list_all fits_local f.locals

-- whether a top-level function and its local functions call local functions rightly
abbrev pub calls_fit : TopFunction → Bool
calls_fit f = list_all (rule_passes (local_heads f.locals)) (all_rules f)

-- A variable is used rightly in a function: the function's own rules don't use it where they don't
-- bind it, and the local functions that capture it stand where it is bound.
pub record VariableFits (f : TopFunction) (v : ℕ) : Type 0 where
  pub closed : (k : ℕ) (rule : LocalRule) → slice_get (rules_of f.body) k ≡ Some rule
      → IsFree f.locals v rule.body
      → IsTrue (holds v (all_variables rule.params))
  pub captured : (k : ℕ) → Captures f.locals k v → IsTrue (holds v (outer_binders f k))

-- whether a local function may capture a variable that is bound somewhere, or nowhere
abbrev pub may_capture : ℕ → Bool → LocalFunction → Bool
may_capture v bound f = bound && not (holds v (local_binders f))

-- whether a local function doesn't capture a variable, or may capture it
abbrev pub fits_capturing : ℕ → Bool → Bool → LocalFunction → Bool
fits_capturing v bound captures f = not captures || may_capture v bound f

-- all local functions that are met may capture the variable
abbrev pub MayCapture : List LocalFunction → ℕ → Bool → List Bool → Type 0
MayCapture locals v bound met =
    (k : ℕ) (f : LocalFunction) → slice_get locals k ≡ Some f → met_at met k ≡ true
    → may_capture v bound f ≡ true

-- whether a set has a variable
abbrev pub is_key : List ℕ → ℕ → Bool
is_key keys x = list_any (is_at (nat_cmp x)) keys

-- a set has all variables of a list
abbrev pub Collects : List ℕ → List ℕ → Type 0
Collects xs keys = (x : ℕ) → holds x xs ≡ true → is_key keys x ≡ true

abbrev pub AreScoped : List TopFunction → Type 0
AreScoped functions = (k : ℕ) (f : TopFunction) → slice_get functions k ≡ Some f → IsScoped f

-- ---- as far as a loop has come

-- of the local functions before place n those that are met may capture the variable
abbrev pub MayBelow : List LocalFunction → ℕ → Bool → List Bool → ℕ → Type 0
MayBelow locals v bound met n =
    (k : ℕ) (f : LocalFunction) → k < n → slice_get locals k ≡ Some f → met_at met k ≡ true
    → may_capture v bound f ≡ true

-- each variable is used rightly, or is one of those that are left
abbrev pub FitsOrLeft : TopFunction → List ℕ → Type 0
FitsOrLeft f keys = (x : ℕ) → VariableFits f x ⊎ (is_key keys x ≡ true)

abbrev pub ScopedBelow : List TopFunction → ℕ → Type 0
ScopedBelow functions n = (k : ℕ) (f : TopFunction) → k < n → slice_get functions k ≡ Some f
    → IsScoped f

-- the variables so far differ, and the set is theirs
pub record Distinct (xs keys : List ℕ) : Type 0 where
  pub linear : is_linear xs ≡ true
  pub seen : (y : ℕ) → is_key keys y ≡ holds y xs
