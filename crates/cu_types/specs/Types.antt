-- Types by their heads and arguments, and substitutions of types for type variables.
use Rattle.std.specs.Prelude.{◌≡◌, ℕ, List, [], ◌∷◌, Option, None, Some, length}
use Rattle.cu_kernel.specs.TypeExpr as type
use Rattle.cu_kernel.specs.TypeExpr.{TypeExpr, TypeExprs}
use Rattle.cu_types.specs.declared.node.TypeHead.{TypeHead}
use Rattle.cu_types.specs.declared.node.TypeHead.TheVariants as head

abbrev pub listed : TypeExprs → List TypeExpr
listed type.NoType = []
listed (type.MoreTypes t ts) = t ∷ listed ts

-- the head at the top of a type, if it is no variable
abbrev pub head_of : TypeExpr → Option TypeHead
head_of (type.Variable x) = None
head_of (type.Arrow a b) = Some head.Arrow
head_of (type.Named name ts) = Some (head.Named name)

abbrev pub arguments : TypeExpr → List TypeExpr
arguments (type.Variable x) = []
arguments (type.Arrow a b) = a ∷ b ∷ []
arguments (type.Named name ts) = listed ts

-- two types have the same head and as many arguments
pub record HaveOneHead (s t : TypeExpr) : Type 0 where
  pub head : TypeHead
  pub left : head_of s ≡ Some head
  pub right : head_of t ≡ Some head
  pub count : length (arguments s) ≡ length (arguments t)

-- a substitution: a type for each type variable
abbrev pub Substitution : Type 0
Substitution = ℕ → TypeExpr

-- a type in which each variable is replaced by the type that a substitution has for it
abbrev mutual
  pub apply : Substitution → TypeExpr → TypeExpr
  apply σ (type.Variable x) = σ x
  apply σ (type.Arrow a b) = type.Arrow (apply σ a) (apply σ b)
  apply σ (type.Named name ts) = type.Named name (apply_all σ ts)

  pub apply_all : Substitution → TypeExprs → TypeExprs
  apply_all σ type.NoType = type.NoType
  apply_all σ (type.MoreTypes t ts) = type.MoreTypes (apply σ t) (apply_all σ ts)
