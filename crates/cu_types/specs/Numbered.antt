-- Types whose variables are numbered from 0 in the order in which they come first.
use Rattle.std.specs.Prelude.{ℕ, List, [], ◌∷◌, ◌++◌, if◌then◌else◌, nat_eq}
use Rattle.std.specs.List.{position_or_len}
use Rattle.cu_calculus.specs.Valid.{holds}
use Rattle.cu_kernel.specs.TypeExpr as type
use Rattle.cu_kernel.specs.TypeExpr.{TypeExpr, TypeExprs}
use Rattle.cu_types.specs.Types.{Substitution, apply}

-- the variables that stand in a type, each as often as it stands there
abbrev mutual
  pub variables_in : TypeExpr → List ℕ
  variables_in (type.Variable x) = x ∷ []
  variables_in (type.Arrow a b) = variables_in a ++ variables_in b
  variables_in (type.Named n ts) = variables_in_all ts

  pub variables_in_all : TypeExprs → List ℕ
  variables_in_all type.NoType = []
  variables_in_all (type.MoreTypes t ts) = variables_in t ++ variables_in_all ts

-- a list with a number at its end, where the number isn't in it yet
abbrev pub noted : List ℕ → ℕ → List ℕ
noted xs x = if holds x xs then xs else xs ++ x ∷ []

abbrev pub all_noted : List ℕ → List ℕ → List ℕ
all_noted xs [] = xs
all_noted xs (y ∷ ys) = all_noted (noted xs y) ys

-- the substitution that puts in place of a variable the one that has its place in a list as its
-- number
abbrev pub by_place : List ℕ → Substitution
by_place xs x = type.Variable (position_or_len (nat_eq x) xs)

-- a type with its variables numbered
unfoldable pub numbered : TypeExpr → TypeExpr
numbered t = apply (by_place (all_noted [] (variables_in t))) t
