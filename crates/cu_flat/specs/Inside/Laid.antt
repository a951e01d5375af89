-- What was laid out when a term, terms, branches or functions were: expressions after those that
-- there were.
use Rattle.std.specs.Prelude.{◌≡◌, ℕ, ◌&&◌, List, [], ◌∷◌, ◌++◌, filter, length}
use Rattle.cu_calculus.specs.declared.ExprId.{ExprId}
use Rattle.cu_calculus.specs.Code as code
use Rattle.cu_calculus.specs.Code.{Branch, Expr}
use Rattle.cu_calculus.specs.Program.{Body, Function}
use Rattle.cu_calculus.specs.Term.{Alternatives, Term, Terms}
use Rattle.cu_flat.specs.Layout as layout
use Rattle.cu_flat.specs.Layout.{beside, binding, branches_use, some_uses, uses}

-- An expression was written after the old ones.
pub record IsPushed (e : Expr) (old new : List Expr) (at : ExprId) : Type 0 where
  pub place : at ≡ record { 0 = length old }
  pub written : new ≡ old ++ e ∷ []

-- A term was laid out in a scope. This says where it stands and which variables of the scope it
-- uses, in the scope's order.
pub record IsLaid (scope : List ℕ) (t : Term) (old new : List Expr) (at : ExprId) (used : List ℕ)
    : Type 0 where
  pub place : at ≡ layout.place (length old) t
  pub used_of : used ≡ filter (uses t) scope
  pub written : new ≡ old ++ layout.layout (length old) scope t

-- A term was laid out where variables are bound. This says where it stands and which variables of
-- the scope around it uses beside the bound ones.
pub record IsLaidUnder (scope bound : List ℕ) (t : Term) (old new : List Expr) (at : ExprId)
    (used : List ℕ) : Type 0 where
  pub place : at ≡ layout.place (length old) t
  pub used_of : used ≡ filter (λ y. beside bound y && uses t y) scope
  pub written : new ≡ old ++ layout.layout (length old) (binding bound scope) t

-- Several terms were laid out, one after the other.
pub record AreLaid (scope : List ℕ) (ts : Terms) (old new : List Expr) (at : List ExprId)
    (used : List ℕ) : Type 0 where
  pub places : at ≡ layout.places (length old) ts
  pub used_of : used ≡ filter (some_uses ts) scope
  pub written : new ≡ old ++ layout.layouts (length old) scope ts

-- The branches of a case distinction were laid out.
pub record BranchesAreLaid (scope : List ℕ) (alternatives : Alternatives) (old new : List Expr)
    (made : List Branch) (used : List ℕ) : Type 0 where
  pub branches : made ≡ layout.branches (length old) alternatives
  pub used_of : used ≡ filter (branches_use alternatives) scope
  pub written : new ≡ old ++ layout.branch_layouts (length old) scope alternatives

-- The body of a function was laid out.
pub record IsBodyLaid (body : Body) (old new : List Expr) (made : code.Body) : Type 0 where
  pub body_of : made ≡ layout.body_at (length old) body
  pub written : new ≡ old ++ layout.body_layout (length old) body

-- Several functions were laid out, one after the other.
pub record AreFunctionsLaid (fs : List Function) (old new : List Expr) (made : List code.Function)
    : Type 0 where
  pub functions : made ≡ layout.functions_from (length old) fs
  pub written : new ≡ old ++ layout.expressions_from (length old) fs
