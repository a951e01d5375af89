-- How many expressions are laid out, and where parts of a list stand in it.
use Rattle.std.proofs.Common.{◌≡◌, ℕ, ◌+◌, ◌-◌, ◌≤◌, List, [], ◌∷◌, ◌++◌, Some, length, slice_get, refl, ap, ◌∙◌, arith, length-append}
use Rattle.cu_calculus.specs.Code as code
use Rattle.cu_calculus.specs.Code.{Expr}
use Rattle.cu_calculus.specs.Program as calculus
use Rattle.cu_calculus.specs.Program.{Body, Function}
use Rattle.cu_calculus.specs.Term as term
use Rattle.cu_calculus.specs.Term.{Alternatives, Term, Terms}
use Rattle.cu_calculus.specs.Valid.{all_variables, variables_of}
use Rattle.cu_calculus.proofs.Lists.{get_suffix, get_prefix}
use Rattle.cu_flat.specs.Layout.{binding, body_layout, body_size, branch_layouts, branch_sizes, branches, kept_of, layout, layouts, place, places, size, sizes}

-- two parts and an expression after them
two-parts : (xs ys : List Expr) (e : Expr) (m n : ℕ) → length xs ≡ m → length ys ≡ n → length (xs ++ ys ++ e ∷ []) ≡ m + n + 1
two-parts xs ys e m n first second =
    omega (arith, length-append xs ys, length-append (xs ++ ys) (e ∷ []), first, second)

one-part : (xs : List Expr) (e : Expr) (n : ℕ) → length xs ≡ n → length (xs ++ e ∷ []) ≡ n + 1
one-part xs e n is = omega (arith, length-append xs (e ∷ []), is)

joined : (xs ys : List Expr) (m n : ℕ) → length xs ≡ m → length ys ≡ n → length (xs ++ ys) ≡ m + n
joined xs ys m n first second = omega (arith, length-append xs ys, first, second)

-- a term has as many expressions as its size says
mutual
  pub length-layout : (n : ℕ) (scope : List ℕ) (t : Term) → length (layout n scope t) ≡ size t
  length-layout n scope (term.Variable x) = refl
  length-layout n scope (term.Literal l) = refl
  length-layout n scope (term.Whole h ts) =
      one-part (layouts n scope ts) (code.Whole h (places n ts)) (sizes ts) (length-layouts n scope ts)
  length-layout n scope (term.Part h ts) =
      one-part (layouts n scope ts) (code.Part h (places n ts)) (sizes ts) (length-layouts n scope ts)
  length-layout n scope (term.Apply f a) =
      two-parts (layout n scope f) (layout (n + size f) scope a) (code.Apply (place n f) (place (n + size f) a)) (size f) (size a)
      (length-layout n scope f) (length-layout (n + size f) scope a)
  length-layout n scope (term.Let x a b) =
      two-parts (layout n scope a) (layout (n + size a) (binding (x ∷ []) scope) b) (code.Let x (place n a) (place (n + size a) b)) (size a) (size b)
      (length-layout n scope a) (length-layout (n + size a) (binding (x ∷ []) scope) b)
  length-layout n scope (term.Free x t) =
      one-part (layout n (binding (x ∷ []) scope) t) (code.Free x (place n t)) (size t) (length-layout n (binding (x ∷ []) scope) t)
  length-layout n scope (term.Or a b) =
      two-parts (layout n scope a) (layout (n + size a) scope b) (code.Or (place n a) (place (n + size a) b)) (size a) (size b)
      (length-layout n scope a) (length-layout (n + size a) scope b)
  length-layout n scope (term.Case mode a alternatives) =
      two-parts (layout n scope a) (branch_layouts (n + size a) scope alternatives)
      (code.Case mode (kept_of scope alternatives) (place n a) (branches (n + size a) alternatives)) (size a) (branch_sizes alternatives)
      (length-layout n scope a) (length-branch_layouts (n + size a) scope alternatives)

  pub length-layouts : (n : ℕ) (scope : List ℕ) (ts : Terms) → length (layouts n scope ts) ≡ sizes ts
  length-layouts n scope term.NoTerm = refl
  length-layouts n scope (term.MoreTerms t ts) =
      joined (layout n scope t) (layouts (n + size t) scope ts) (size t) (sizes ts) (length-layout n scope t) (length-layouts (n + size t) scope ts)

  pub length-branch_layouts : (n : ℕ) (scope : List ℕ) (alternatives : Alternatives) → length (branch_layouts n scope alternatives) ≡ branch_sizes alternatives
  length-branch_layouts n scope term.NoAlternative = refl
  length-branch_layouts n scope (term.MoreAlternatives p t alternatives) =
      joined (layout n (binding (variables_of p) scope) t) (branch_layouts (n + size t) scope alternatives) (size t) (branch_sizes alternatives)
      (length-layout n (binding (variables_of p) scope) t) (length-branch_layouts (n + size t) scope alternatives)

-- a term has at least one
pub size-some : (t : Term) → 1 ≤ size t
size-some (term.Variable x) = omega arith
size-some (term.Literal l) = omega arith
size-some (term.Whole h ts) = omega arith
size-some (term.Part h ts) = omega arith
size-some (term.Apply f a) = omega arith
size-some (term.Let x a b) = omega arith
size-some (term.Free x t) = omega arith
size-some (term.Or a b) = omega arith
size-some (term.Case mode a alternatives) = omega arith

pub length-body : (n : ℕ) (body : Body) → length (body_layout n body) ≡ body_size body
length-body n (calculus.Rules []) = refl
length-body n (calculus.Rules (rule ∷ [])) = length-layout n (all_variables rule.params) rule.body
length-body n (calculus.Rules (rule ∷ other ∷ rules)) = refl
length-body n (calculus.External operation) = refl

-- ---- parts of a list

-- a part of a list stands from the place n on
pub record Stands (es : List Expr) (n : ℕ) (part : List Expr) : Type 0 where
  pub at : (k : ℕ) (e : Expr) → slice_get part k ≡ Some e → slice_get es (n + k) ≡ Some e
  pub inside : n + length part ≤ length es

pub Stands-all : (es : List Expr) → Stands es 0 es
Stands-all es = record { at = λ k e h. ap (slice_get es) (omega arith) ∙ h; inside = omega arith }

pub Stands-left : (es : List Expr) (n : ℕ) (xs ys : List Expr) → Stands es n (xs ++ ys) → Stands es n xs
Stands-left es n xs ys s = record {
  at = λ k e h. s.at k e (get_prefix xs ys k e h);
  inside = omega (arith, length-append xs ys, s.inside);
}

pub Stands-right : (es : List Expr) (n m : ℕ) (xs ys : List Expr) → Stands es n (xs ++ ys) → length xs ≡ m → Stands es (n + m) ys
Stands-right es n m xs ys s long = record {
  at = λ k e h. ap (slice_get es) (omega (arith, long)) ∙ s.at (length xs + k) e (get_suffix xs ys k ∙ h);
  inside = omega (arith, length-append xs ys, s.inside, long);
}

-- the last expression of a part
pub Stands-last : (es : List Expr) (n m : ℕ) (xs : List Expr) (e : Expr) → Stands es n (xs ++ e ∷ []) → length xs ≡ m - 1 → 1 ≤ m
    → slice_get es (n + (m - 1)) ≡ Some e
Stands-last es n m xs e s long some =
    ap (slice_get es) (omega (arith, long)) ∙ s.at (length xs + 0) e (get_suffix xs (e ∷ []) 0 ∙ refl)
