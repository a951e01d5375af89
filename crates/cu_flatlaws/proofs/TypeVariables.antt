-- The variables of types are below a bound: those of declarations are parameters, and those of
-- inferred types below their count.
use Rattle.std.proofs.Common.{◌≡◌, ℕ, zero, suc, ◌+◌, ◌≤◌, ◌<◌, max, ◌&&◌, List, [], ◌∷◌, ◌++◌, IsTrue, arith, ltb-true}
use Rattle.std.proofs.lemmas.Bool.{and_parts}
use Rattle.cu_kernel.specs.Kernel.{Kernel}
use Rattle.cu_kernel.specs.TypeExpr as type
use Rattle.cu_kernel.specs.TypeExpr.{TypeExpr, TypeExprs}
use Rattle.cu_kernel.specs.Valid.{fits_type, fit_types, is_parameter, is_type_name}
use Rattle.cu_types.specs.Equations.{above, above_all, breadth}
use Rattle.cu_types.specs.Numbered.{variables_in, variables_in_all}

-- the variables of a type are below a bound
abbrev mutual
  pub Below : ℕ → TypeExpr → Type 0
  Below n (type.Variable x) = x < n
  Below n (type.Arrow a b) = Below n a × Below n b
  Below n (type.Named e ts) = AllBelow n ts

  pub AllBelow : ℕ → TypeExprs → Type 0
  AllBelow n type.NoType = Unit {0}
  AllBelow n (type.MoreTypes t ts) = Below n t × AllBelow n ts

-- ---- declarations

mutual
  pub parameters_below : (kernel : Kernel) (n : ℕ) (t : TypeExpr)
      → IsTrue (fits_type kernel (is_parameter n) t) → Below n t
  parameters_below kernel n (type.Variable x) fits = ltb-true x n fits
  parameters_below kernel n (type.Arrow a b) fits =
      let both = and_parts (fits_type kernel (is_parameter n) a) (fits_type kernel (is_parameter n) b) fits in
      (parameters_below kernel n a both.0, parameters_below kernel n b both.1)
  parameters_below kernel n (type.Named e ts) fits =
      all_parameters_below kernel n ts (and_parts (is_type_name kernel e) (fit_types kernel (is_parameter n) ts) fits).1

  pub all_parameters_below : (kernel : Kernel) (n : ℕ) (ts : TypeExprs)
      → IsTrue (fit_types kernel (is_parameter n) ts) → AllBelow n ts
  all_parameters_below kernel n type.NoType fits = tt
  all_parameters_below kernel n (type.MoreTypes t ts) fits =
      let both = and_parts (fits_type kernel (is_parameter n) t) (fit_types kernel (is_parameter n) ts) fits in
      (parameters_below kernel n t both.0, all_parameters_below kernel n ts both.1)

-- ---- inferred types

above_max : (x bound : ℕ) → above x bound ≡ max (x + 1) bound
above_max x zero = omega arith
above_max zero (suc bound) = omega arith
above_max (suc x) (suc bound) = omega (arith, above_max x bound)

above_append : (xs ys : List ℕ) → above_all (xs ++ ys) ≡ max (above_all xs) (above_all ys)
above_append [] ys = omega arith
above_append (x ∷ xs) ys =
    omega (arith, above_append xs ys, above_max x (above_all xs), above_max x (above_all (xs ++ ys)))

mutual
  variables_below : (n : ℕ) (t : TypeExpr) → above_all (variables_in t) ≤ n → Below n t
  variables_below n (type.Variable x) few = omega (arith, few, above_max x 0)
  variables_below n (type.Arrow a b) few =
      let both = above_append (variables_in a) (variables_in b) in
      (variables_below n a (omega (arith, few, both)), variables_below n b (omega (arith, few, both)))
  variables_below n (type.Named e ts) few = all_variables_below n ts few

  all_variables_below : (n : ℕ) (ts : TypeExprs) → above_all (variables_in_all ts) ≤ n → AllBelow n ts
  all_variables_below n type.NoType few = tt
  all_variables_below n (type.MoreTypes t ts) few =
      let both = above_append (variables_in t) (variables_in_all ts) in
      (variables_below n t (omega (arith, few, both)), all_variables_below n ts (omega (arith, few, both)))

pub breadth_below : (t : TypeExpr) → Below (breadth t) t
breadth_below t = variables_below (breadth t) t (omega arith)
