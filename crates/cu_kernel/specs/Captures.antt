-- Free and captured variables, as lambda lifting has them (Johnsson, "Lambda lifting", 1985): a
-- local function captures the variables that its rules use and don't bind, and those captured by
-- the local functions that its rules use. The captured variables are the least sets of which this
-- holds.
use Rattle.std.specs.Prelude.{◌≡◌, ◌↔◌, ℕ, Bool, true, false, not, ◌&&◌, ◌||◌, List, [], ◌∷◌, Some, IsTrue, nat_eq, nat_lt, slice_get}
use Rattle.std.specs.List.{list_all, list_any}
use Rattle.cu_calculus.specs.Valid.{all_variables, holds, variables_of}
use Rattle.cu_kernel.specs.LocalKernel.{LocalFunction, LocalRule}
use Rattle.cu_kernel.specs.LocalTerm as local
use Rattle.cu_kernel.specs.LocalTerm.{LocalAlternatives, LocalTerm, LocalTerms}
use Rattle.cu_kernel.specs.declared.local.LocalHead.{LocalHead}
use Rattle.cu_kernel.specs.declared.local.LocalHead.TheVariants as head

-- Whether a term uses a variable where nothing around binds it in the term: by the variable itself,
-- or by a head that counts as a use of it.
abbrev mutual
  pub uses : (LocalHead → Bool) → ℕ → LocalTerm → Bool
  uses counts v (local.Variable x) = nat_eq x v
  uses counts v (local.Literal l) = false
  uses counts v (local.Whole h ts) = counts h || any_use counts v ts
  uses counts v (local.Part h ts) = counts h || any_use counts v ts
  uses counts v (local.Apply f a) = uses counts v f || uses counts v a
  uses counts v (local.Let x a b) = uses counts v a || (not (nat_eq x v) && uses counts v b)
  uses counts v (local.Free x t) = not (nat_eq x v) && uses counts v t
  uses counts v (local.Or a b) = uses counts v a || uses counts v b
  uses counts v (local.Case mode a alternatives) =
      uses counts v a || alternatives_use counts v alternatives

  -- whether one of several terms uses a variable where nothing around binds it
  pub any_use : (LocalHead → Bool) → ℕ → LocalTerms → Bool
  any_use counts v local.NoTerm = false
  any_use counts v (local.MoreTerms t ts) = uses counts v t || any_use counts v ts

  -- whether alternatives use a variable that neither their patterns nor anything around binds
  pub alternatives_use : (LocalHead → Bool) → ℕ → LocalAlternatives → Bool
  alternatives_use counts v local.NoAlternative = false
  alternatives_use counts v (local.MoreAlternatives p t alternatives) =
      (not (holds v (variables_of p)) && uses counts v t) || alternatives_use counts v alternatives

-- whether a head counts as a use: none does, so that only the variable itself is one
abbrev pub no_head : LocalHead → Bool
no_head h = false

-- whether a head is the local function with this number
abbrev pub is_local : ℕ → LocalHead → Bool
is_local k (head.Local j) = nat_eq j k
is_local k (head.Global h) = false

-- whether a rule uses a variable that it doesn't bind
abbrev pub rule_uses : (LocalHead → Bool) → ℕ → LocalRule → Bool
rule_uses counts v rule = not (holds v (all_variables rule.params)) && uses counts v rule.body

-- whether one of several rules uses a variable that it doesn't bind
abbrev pub rules_use : (LocalHead → Bool) → ℕ → List LocalRule → Bool
rules_use counts v rules = list_any (rule_uses counts v) rules

-- the local function with a number captures a variable
pub data Captures (locals : List LocalFunction) : ℕ → ℕ → Type 0 where
  own : (k v : ℕ) (f : LocalFunction) → slice_get locals k ≡ Some f
      → IsTrue (rules_use no_head v f.rules) → Captures locals k v
  through : (k h v : ℕ) (f : LocalFunction) → slice_get locals k ≡ Some f
      → IsTrue (rules_use (is_local h) v f.rules)
      → Captures locals h v → Captures locals k v

-- a variable is free in a term: the term uses it, or a local function that captures it
pub data IsFree (locals : List LocalFunction) (v : ℕ) (t : LocalTerm) : Type 0 where
  own : IsTrue (uses no_head v t) → IsFree locals v t
  through : (h : ℕ) → IsTrue (uses (is_local h) v t) → Captures locals h v → IsFree locals v t

-- each number is above the one before
abbrev pub are_rising : List ℕ → Bool
are_rising [] = true
are_rising (x ∷ xs) = list_all (nat_lt x) xs && are_rising xs

-- The captured variables of a local function, in the order in which lifting puts them before its
-- parameters: that of their numbers, which is the order of their declaration.
pub record AreCaptured (locals : List LocalFunction) (k : ℕ) (variables : List ℕ) : Type 0 where
  pub rising : IsTrue (are_rising variables)
  pub exact : (v : ℕ) → IsTrue (holds v variables) ↔ Captures locals k v
