-- What stands in a term where nothing around binds a variable: the uses of the variable, and the
-- heads.
use Rattle.std.specs.Prelude.{ℕ, Bool, true, cond, List, [], ◌∷◌, ◌++◌, Option, None, Some, flat_map, nat_eq}
use Rattle.cu_calculus.specs.Valid.{all_variables, holds, variables_of}
use Rattle.cu_kernel.specs.LocalKernel.{LocalRule}
use Rattle.cu_kernel.specs.LocalTerm as local
use Rattle.cu_kernel.specs.LocalTerm.{LocalAlternatives, LocalTerm, LocalTerms}
use Rattle.cu_kernel.specs.declared.local.LocalHead.{LocalHead}

-- a use of the variable itself (None), or a head
abbrev pub Use : Type 0
Use = Option LocalHead

-- these uses, or none where the variable is bound
abbrev pub unbound : Bool → List Use → List Use
unbound bound us = cond bound [] us

abbrev mutual
  pub exposed : ℕ → LocalTerm → List Use
  exposed v (local.Variable x) = cond (nat_eq x v) (None ∷ []) []
  exposed v (local.Literal l) = []
  exposed v (local.Whole h ts) = Some h ∷ exposed_in_all v ts
  exposed v (local.Part h ts) = Some h ∷ exposed_in_all v ts
  exposed v (local.Apply f a) = exposed v f ++ exposed v a
  exposed v (local.Let x a b) = exposed v a ++ unbound (nat_eq x v) (exposed v b)
  exposed v (local.Free x t) = unbound (nat_eq x v) (exposed v t)
  exposed v (local.Or a b) = exposed v a ++ exposed v b
  exposed v (local.Case mode a alternatives) = exposed v a ++ exposed_in_alternatives v alternatives

  pub exposed_in_all : ℕ → LocalTerms → List Use
  exposed_in_all v local.NoTerm = []
  exposed_in_all v (local.MoreTerms t ts) = exposed v t ++ exposed_in_all v ts

  pub exposed_in_alternatives : ℕ → LocalAlternatives → List Use
  exposed_in_alternatives v local.NoAlternative = []
  exposed_in_alternatives v (local.MoreAlternatives p t alternatives) =
      unbound (holds v (variables_of p)) (exposed v t) ++ exposed_in_alternatives v alternatives

abbrev pub exposed_in_rule : ℕ → LocalRule → List Use
exposed_in_rule v rule = unbound (holds v (all_variables rule.params)) (exposed v rule.body)

abbrev pub exposed_in_rules : ℕ → List LocalRule → List Use
exposed_in_rules v rules = flat_map (exposed_in_rule v) rules

-- whether a use counts: the variable itself always does, and a head where `counts` holds of it
abbrev pub counted : (LocalHead → Bool) → Use → Bool
counted counts None = true
counted counts (Some h) = counts h
