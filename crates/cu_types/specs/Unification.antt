-- Unification: what solves equations between types, and what equations make equal (Baader and
-- Snyder, Unification theory, 2001).
use Rattle.std.specs.Prelude.{◌≡◌, ℕ, List, [], ◌∷◌, Some, slice_get}
use Rattle.cu_kernel.specs.TypeExpr.{TypeExpr}
use Rattle.cu_types.specs.Types.{HaveOneHead, Substitution, apply, arguments}

-- an equation: two types that shall be the same
pub record Equation : Type 0 where
  pub left : TypeExpr
  pub right : TypeExpr

-- a substitution makes two types the same
abbrev pub Unifies : Substitution → TypeExpr → TypeExpr → Type 0
Unifies σ s t = apply σ s ≡ apply σ t

-- a substitution solves equations: it makes both sides of each the same
abbrev pub Solves : Substitution → List Equation → Type 0
Solves σ equations = (k : ℕ) (e : Equation) → slice_get equations k ≡ Some e
    → Unifies σ e.left e.right

-- a substitution is an instance of another: it is that one, followed by a third
abbrev pub IsInstance : Substitution → Substitution → Type 0
IsInstance τ σ = (ρ : Substitution) × ((x : ℕ) → τ x ≡ apply ρ (σ x))

-- a most general solution: every solution is an instance of it
pub record IsMostGeneral (σ : Substitution) (equations : List Equation) : Type 0 where
  pub solves : Solves σ equations
  pub general : (τ : Substitution) → Solves τ equations → IsInstance τ σ

mutual
  -- What equations make equal: the least equivalence on types that holds of the sides of each
  -- equation, and that goes from two types with the same head and as many arguments to their
  -- arguments in pairs, and back.
  pub data MadeEqual (equations : List Equation) : TypeExpr → TypeExpr → Type 0 where
    given : (k : ℕ) (e : Equation) → slice_get equations k ≡ Some e
        → MadeEqual equations e.left e.right
    reflexive : (t : TypeExpr) → MadeEqual equations t t
    symmetric : (s t : TypeExpr) → MadeEqual equations s t → MadeEqual equations t s
    transitive : (s t u : TypeExpr) → MadeEqual equations s t → MadeEqual equations t u
        → MadeEqual equations s u
    argument : (s t a b : TypeExpr) (k : ℕ) → HaveOneHead s t → MadeEqual equations s t
        → slice_get (arguments s) k ≡ Some a → slice_get (arguments t) k ≡ Some b
        → MadeEqual equations a b
    whole : (s t : TypeExpr) → HaveOneHead s t → AllMadeEqual equations (arguments s) (arguments t)
        → MadeEqual equations s t

  -- the types of two lists are made equal in pairs
  pub data AllMadeEqual (equations : List Equation) : List TypeExpr → List TypeExpr → Type 0 where
    none : AllMadeEqual equations [] []
    more : (s t : TypeExpr) (ss ts : List TypeExpr) → MadeEqual equations s t
        → AllMadeEqual equations ss ts
        → AllMadeEqual equations (s ∷ ss) (t ∷ ts)

-- a clash: two types that the equations make equal, and that no substitution makes the same
pub record IsClash (equations : List Equation) (left right : TypeExpr) : Type 0 where
  pub made_equal : MadeEqual equations left right
  pub apart : (σ : Substitution) → Unifies σ left right → ⊥
