-- What follows from the definitions of solutions, clashes, interfaces and faults.
use Rattle.std.specs.Prelude.{◌≡◌, List, min}
use Rattle.cu_calculus.specs.declared.FunId.{FunId}
use Rattle.cu_kernel.specs.Kernel.{Kernel}
use Rattle.cu_kernel.specs.TypeExpr.{TypeExpr}
use Rattle.cu_types.specs.Inference.{Declares, HasDeclaredType, IsInferred, PrincipallyTyped, Typed, type_in}
use Rattle.cu_types.specs.Numbered.{numbered}
use Rattle.cu_types.specs.Synonyms.{expanded}
use Rattle.cu_types.specs.TypeFaults.{HasBrokenSignature, HasClash, HasFunctionalGoal, HasNoSolution, IsTypeFault}
use Rattle.cu_types.specs.Types.{Substitution}
use Rattle.cu_types.specs.Unification.{Equation, IsClash, IsInstance, IsMostGeneral, MadeEqual, Solves, Unifies}
use Rattle.cu_types.specs.declared.inference.TypeFault.{TypeFault}
use Rattle.cu_types.specs.declared.inference.TypeFault.TheVariants as fault
use Rattle.cu_types.specs.declared.unification.Clash.{Clash}

-- each solution makes the same what the equations make equal
abbrev pub SolutionsAgree : Type 0
SolutionsAgree = (equations : List Equation) (σ : Substitution) (s t : TypeExpr)
    → Solves σ equations → MadeEqual equations s t
    → Unifies σ s t

-- equations that have a clash have no solution
abbrev pub ClashesRefute : Type 0
ClashesRefute = (equations : List Equation) (s t : TypeExpr) (σ : Substitution)
    → IsClash equations s t → Solves σ equations → ⊥

-- most general solutions are instances of one another
abbrev pub MostGeneralAgree : Type 0
MostGeneralAgree = (equations : List Equation) (σ τ : Substitution) → IsMostGeneral σ equations
    → IsMostGeneral τ equations
    → IsInstance σ τ × IsInstance τ σ

-- where the equations of a group have a clash, nothing solves them
abbrev pub ClashesLeaveNoSolution : Type 0
ClashesLeaveNoSolution = (kernel : Kernel) (f : FunId) (c : Clash) → HasClash kernel f c
    → HasNoSolution kernel f

-- a program has one interface at most
abbrev pub InterfacesAgree : Type 0
InterfacesAgree = (kernel : Kernel) (i j : List TypeExpr) → PrincipallyTyped kernel i
    → PrincipallyTyped kernel j → i ≡ j

-- A program is one of these at most: its functions have types and its goal is data; they have types
-- and its goal is functional; the equations of a first group have no solution; they have solutions,
-- and none that keeps to the declared types.
pub record AnswersExclude : Type 0 where
  pub solutions : (kernel : Kernel) (i : List TypeExpr) (f : FunId) → PrincipallyTyped kernel i
      → HasNoSolution kernel f → ⊥
  pub signatures : (kernel : Kernel) (i : List TypeExpr) (f : FunId) → PrincipallyTyped kernel i
      → HasBrokenSignature kernel f → ⊥
  pub goal : (kernel : Kernel) (i : List TypeExpr) → IsInferred kernel i
      → HasFunctionalGoal kernel → ⊥
  pub group : (kernel : Kernel) (f g : FunId) → HasNoSolution kernel f
      → HasBrokenSignature kernel g → ⊥
  -- beside an interface a program has no fault but an allocation failure
  pub faults : (kernel : Kernel) (i : List TypeExpr) (a : TypeFault) → IsInferred kernel i
      → IsTypeFault kernel a → a ≡ fault.NoMemory

-- Two faults are of one kind, and of one group. An allocation failure is like any fault.
abbrev pub AreAlike : TypeFault → TypeFault → Type 0
AreAlike fault.NoMemory b = Unit {0}
AreAlike a fault.NoMemory = Unit {0}
AreAlike (fault.TypeClash f c) (fault.TypeClash g d) = f ≡ g
AreAlike (fault.Signature f) (fault.Signature g) = f ≡ g
AreAlike fault.GoalFunctional fault.GoalFunctional = Unit {0}
AreAlike a b = ⊥

-- Two faults of a program are alike, since one group is the first that can't be typed, and one
-- function is its first.
pub record FaultsAgree : Type 0 where
  pub solutions : (kernel : Kernel) (f g : FunId) → HasNoSolution kernel f
      → HasNoSolution kernel g → f ≡ g
  pub signatures : (kernel : Kernel) (f g : FunId) → HasBrokenSignature kernel f
      → HasBrokenSignature kernel g → f ≡ g
  pub faults : (kernel : Kernel) (a b : TypeFault) → IsTypeFault kernel a → IsTypeFault kernel b
      → AreAlike a b

-- Functions have their declared types, with synonyms expanded and variables numbered. The declared
-- type of a local function follows the types of what it captured.
pub record DeclaredTypesHold : Type 0 where
  pub functions : (kernel : Kernel) (interface : List TypeExpr) (f : FunId) (t : TypeExpr)
      (is : Declares kernel f t) → Typed kernel interface → is.mark.captured ≡ 0
      → type_in interface f ≡ numbered (expanded kernel t)
  pub local : (kernel : Kernel) (interface : List TypeExpr) (f : FunId) (t : TypeExpr)
      (is : Declares kernel f t) → Typed kernel interface
      → HasDeclaredType kernel interface f (min is.mark.captured is.function.arity) t
