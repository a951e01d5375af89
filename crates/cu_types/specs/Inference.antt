-- Type inference: the types of a program's functions, group by group, and why there are none.
use Rattle.std.specs.Prelude.{◌≡◌, ℕ, zero, suc, ◌+◌, ◌<◌, ◌≤◌, Bool, true, false, ◌||◌, List, Option, None, Some, IsTrue, length, slice_get, slice_index_or}
use Rattle.cu_calculus.specs.Valid.{holds}
use Rattle.cu_calculus.specs.declared.FunId.{FunId}
use Rattle.cu_kernel.specs.Kernel.{Function, Goal, Kernel, Mark, program_of}
use Rattle.cu_kernel.specs.TypeExpr as type
use Rattle.cu_kernel.specs.TypeExpr.{TypeExpr, TypeExprs}
use Rattle.cu_lift.specs.Groups.{AreGroups, IsGroup}
use Rattle.cu_types.specs.BuiltInTypes.{arrows}
use Rattle.cu_types.specs.Equations.{Member, breadth, equations, first_declared, member_type, members, renamed}
use Rattle.cu_types.specs.Numbered.{numbered, variables_in}
use Rattle.cu_types.specs.Synonyms.{expanded}
use Rattle.cu_types.specs.Types.{Substitution, apply}
use Rattle.cu_types.specs.Unification.{IsMostGeneral, Solves}

-- ---- solutions that keep to the declared types

-- x is a type variable of this member's declared type
pub record IsDeclared (m : Member) (x : ℕ) : Type 0 where
  pub type : TypeExpr
  pub is_type : m.declared ≡ Some type
  pub variable : ℕ
  pub below : variable < breadth type
  pub place : x ≡ first_declared m + variable

-- x is a type variable of the declared type of a member of the group
pub record IsOfGroup (ms : List Member) (x : ℕ) : Type 0 where
  pub place : ℕ
  pub member : Member
  pub is_member : slice_get ms place ≡ Some member
  pub declared : IsDeclared member x

-- A solution keeps to the declared types of a group, whose variables are rigid: they stay distinct
-- variables, and none of a function's stands in the type of what the function captured.
pub record KeepsDeclared (σ : Substitution) (ms : List Member) : Type 0 where
  pub variable : (x : ℕ) → IsOfGroup ms x → (y : ℕ) × (σ x ≡ type.Variable y)
  pub distinct : (x y : ℕ) → IsOfGroup ms x → IsOfGroup ms y → σ x ≡ σ y → x ≡ y
  pub absent : (k x y i : ℕ) (m : Member) → slice_get ms k ≡ Some m → IsDeclared m x
      → σ x ≡ type.Variable y → i < m.captured
      → IsTrue (holds y (variables_in (σ (m.first + i)))) → ⊥

-- ---- interfaces

-- the type of a function in an interface
abbrev pub type_in : List TypeExpr → FunId → TypeExpr
type_in interface f = slice_index_or interface f.0 (type.Variable 0)

-- An interface has the types that a solution gives to the members of a group, each with its
-- variables numbered.
abbrev pub HasTypes : List TypeExpr → Substitution → List Member → Type 0
HasTypes interface σ ms = (k : ℕ) (m : Member) → slice_get ms k ≡ Some m
    → type_in interface m.function ≡ numbered (apply σ (member_type m))

-- The types of a group's functions solve its equations, and keep to the declared types.
pub record IsTyped (kernel : Kernel) (interface : List TypeExpr) (group : List FunId) : Type 0 where
  pub solution : Substitution
  pub solves : Solves solution (equations kernel interface group)
  pub keeps : KeepsDeclared solution (members kernel group)
  pub types : HasTypes interface solution (members kernel group)

-- The types of a group's functions are principal: every solution of the group's equations is an
-- instance of the one that they come from, which keeps to the declared types.
pub record HasPrincipalTypes (kernel : Kernel) (interface : List TypeExpr)
    (group : List FunId) : Type 0 where
  pub solution : Substitution
  pub general : IsMostGeneral solution (equations kernel interface group)
  pub keeps : KeepsDeclared solution (members kernel group)
  pub types : HasTypes interface solution (members kernel group)

-- each function of the program has a type that solves the equations of its group
pub record Typed (kernel : Kernel) (interface : List TypeExpr) : Type 0 where
  pub each : length interface ≡ length kernel.functions
  pub groups : (group : List FunId) → IsGroup (program_of kernel) group
      → IsTyped kernel interface group

-- each function of the program has the most general type that the equations of its group have
pub record PrincipallyTyped (kernel : Kernel) (interface : List TypeExpr) : Type 0 where
  pub typed : Typed kernel interface
  pub general : (group : List FunId) → IsGroup (program_of kernel) group
      → HasPrincipalTypes kernel interface group

-- ---- declared types

-- the program has this declared type of a function
pub record Declares (kernel : Kernel) (f : FunId) (type : TypeExpr) : Type 0 where
  pub function : Function
  pub mark : Mark
  pub is_function : slice_get kernel.functions f.0 ≡ Some function
  pub is_mark : slice_get kernel.marks f.0 ≡ Some mark
  pub is_declared : mark.declared ≡ Some type

-- A function has its declared type, after so many types of what it captured. The variables of the
-- declared type are none of those of these types.
pub record HasDeclaredType (kernel : Kernel) (interface : List TypeExpr) (f : FunId) (captured : ℕ)
    (declared : TypeExpr) : Type 0 where
  pub types : List TypeExpr
  pub count : length types ≡ captured
  pub next : ℕ
  pub below : (k : ℕ) (t : TypeExpr) → slice_get types k ≡ Some t → breadth t ≤ next
  pub is : type_in interface f ≡ numbered (arrows types (renamed next (expanded kernel declared)))

-- ---- goals

-- whether a function type stands in a type
abbrev mutual
  pub holds_function : TypeExpr → Bool
  holds_function (type.Variable x) = false
  holds_function (type.Arrow a b) = true
  holds_function (type.Named n ts) = some_hold_function ts

  pub some_hold_function : TypeExprs → Bool
  some_hold_function type.NoType = false
  some_hold_function (type.MoreTypes t ts) = holds_function t || some_hold_function ts

-- whether a function type stands in the type of one of the first parameters, or of the result after
-- them
abbrev pub takes_function : ℕ → TypeExpr → Bool
takes_function zero t = holds_function t
takes_function (suc count) (type.Arrow a b) = holds_function a || takes_function count b
takes_function (suc count) _ = false

-- whether the type of a goal, or of one of its variables, holds functions; the goal's variables are
-- the parameters of its function
abbrev pub is_functional : List TypeExpr → Option Goal → Bool
is_functional interface None = false
is_functional interface (Some g) = takes_function (length g.names) (type_in interface g.function)

-- ---- what inference answers

-- the interface has the types of all functions, and the goal and its variables are data
pub record IsInferred (kernel : Kernel) (interface : List TypeExpr) : Type 0 where
  pub types : PrincipallyTyped kernel interface
  pub data_goal : is_functional interface kernel.goal ≡ false

-- Inference comes to a group: the groups before it have their types, and it is the next one.
pub record ComesTo (kernel : Kernel) (interface : List TypeExpr) (group : List FunId) : Type 0 where
  pub groups : List (List FunId)
  pub are_groups : AreGroups (program_of kernel) groups
  pub place : ℕ
  pub is_next : slice_get groups place ≡ Some group
  pub before : (k : ℕ) (other : List FunId) → k < place → slice_get groups k ≡ Some other
      → HasPrincipalTypes kernel interface other

-- the equations of a group have solutions, and none keeps to the declared types
pub record BreaksSignature (kernel : Kernel) (interface : List TypeExpr)
    (group : List FunId) : Type 0 where
  pub solution : Substitution
  pub solves : Solves solution (equations kernel interface group)
  pub none : (σ : Substitution) → Solves σ (equations kernel interface group)
      → KeepsDeclared σ (members kernel group) → ⊥
