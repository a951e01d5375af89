-- Types in which synonyms are expanded, shape by shape.
use Rattle.std.specs.Prelude.{◌≡◌, ℕ, List, map}
use Rattle.cu_kernel.specs.TypeExpr as type
use Rattle.cu_kernel.specs.TypeExpr.{TypeExpr}
use Rattle.cu_kernel.specs.declared.type_term.TypeName.{TypeName}
use Rattle.cu_kernel.specs.declared.type_term.TypeName.TheVariants as name
use Rattle.cu_types.specs.Synonyms.{for_parameters}
use Rattle.cu_types.specs.Table as shape
use Rattle.cu_types.specs.Table.{Shape, built}
use Rattle.cu_types.specs.Types.{apply}
use Rattle.cu_types.specs.declared.node.TypeHead.{TypeHead}
use Rattle.cu_types.specs.declared.node.TypeHead.TheVariants as head

-- the type of a name on arguments that name no synonym, where it is told what synonyms stand for
abbrev pub name_expanded : (ℕ → TypeExpr) → TypeName → List TypeExpr → TypeExpr
name_expanded body (name.Data t) ts = built (head.Named (name.Data t)) ts
name_expanded body (name.Synonym s) ts = apply (for_parameters ts) (body s.0)

-- the type of a head on arguments that name no synonym, where it is told what synonyms stand for
abbrev pub head_expanded : (ℕ → TypeExpr) → TypeHead → List TypeExpr → TypeExpr
head_expanded body head.Arrow ts = built head.Arrow ts
head_expanded body (head.Named n) ts = name_expanded body n ts

-- the type of a shape without synonyms, where it is told what stands at each place without synonyms
abbrev pub shape_expanded : (ℕ → TypeExpr) → (ℕ → TypeExpr) → Shape → TypeExpr
shape_expanded body tree (shape.Variable x) = type.Variable x
shape_expanded body tree (shape.Applied h ps) = head_expanded body h (map tree ps)

-- a shape has this head with arguments at these places
abbrev pub HasArguments : Shape → TypeHead → List ℕ → Type 0
HasArguments (shape.Variable x) h ps = ⊥
HasArguments (shape.Applied own qs) h ps = (own ≡ h) × (qs ≡ ps)

-- a shape is this variable
abbrev pub IsVariable : Shape → ℕ → Type 0
IsVariable (shape.Variable y) x = y ≡ x
IsVariable (shape.Applied h ps) x = ⊥
