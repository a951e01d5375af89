-- The variables that stand in a term where nothing around binds them.
use Rattle.std.specs.Prelude.{ℕ, Bool, cond, List, [], ◌∷◌, ◌++◌, flat_map}
use Rattle.cu_calculus.specs.Valid.{all_variables, also, also_all, variables_of}
use Rattle.cu_kernel.specs.LocalKernel.{LocalFunction, LocalRule, TopFunction}
use Rattle.cu_kernel.specs.LocalTerm as local
use Rattle.cu_kernel.specs.LocalTerm.{LocalAlternatives, LocalTerm, LocalTerms}
use Rattle.cu_kernel.specs.LocalValid.{rules_of}
use Rattle.cu_kernel.specs.Inside.Scope.{held_by}

-- the list of a variable, or the empty list where it is bound
abbrev pub unless : Bool → ℕ → List ℕ
unless bound x = cond bound [] (x ∷ [])

abbrev mutual
  pub free_uses : (ℕ → Bool) → LocalTerm → List ℕ
  free_uses bound (local.Variable x) = unless (bound x) x
  free_uses bound (local.Literal l) = []
  free_uses bound (local.Whole h ts) = free_in_all bound ts
  free_uses bound (local.Part h ts) = free_in_all bound ts
  free_uses bound (local.Apply f a) = free_uses bound f ++ free_uses bound a
  free_uses bound (local.Let x a b) = free_uses bound a ++ free_uses (also x bound) b
  free_uses bound (local.Free x t) = free_uses (also x bound) t
  free_uses bound (local.Or a b) = free_uses bound a ++ free_uses bound b
  free_uses bound (local.Case mode a alternatives) =
      free_uses bound a ++ free_in_alternatives bound alternatives

  pub free_in_all : (ℕ → Bool) → LocalTerms → List ℕ
  free_in_all bound local.NoTerm = []
  free_in_all bound (local.MoreTerms t ts) = free_uses bound t ++ free_in_all bound ts

  pub free_in_alternatives : (ℕ → Bool) → LocalAlternatives → List ℕ
  free_in_alternatives bound local.NoAlternative = []
  free_in_alternatives bound (local.MoreAlternatives p t alternatives) =
      free_uses (also_all (variables_of p) bound) t ++ free_in_alternatives bound alternatives

-- what a rule uses and doesn't bind
abbrev pub free_in_rule : LocalRule → List ℕ
free_in_rule rule = free_uses (held_by (all_variables rule.params)) rule.body

abbrev pub free_in_rules : List LocalRule → List ℕ
free_in_rules rules = flat_map free_in_rule rules

abbrev pub free_in_local : LocalFunction → List ℕ
free_in_local f = free_in_rules f.rules

-- what the rules of a top-level function and of its local functions use and don't bind themselves
abbrev pub free_in_function : TopFunction → List ℕ
free_in_function f = free_in_rules (rules_of f.body) ++ flat_map free_in_local f.locals
