-- Why inference gives no interface. A dependency group is told by its first function.
use Rattle.std.specs.Prelude.{◌≡◌, true, List, ◌∷◌}
use Rattle.cu_calculus.specs.declared.FunId.{FunId}
use Rattle.cu_kernel.specs.Kernel.{Kernel}
use Rattle.cu_kernel.specs.TypeExpr.{TypeExpr}
use Rattle.cu_types.specs.Equations.{equations}
use Rattle.cu_types.specs.Inference.{BreaksSignature, ComesTo, PrincipallyTyped, is_functional}
use Rattle.cu_types.specs.Meaning.{Clashes}
use Rattle.cu_types.specs.Types.{Substitution}
use Rattle.cu_types.specs.Unification.{Solves}
use Rattle.cu_types.specs.declared.inference.TypeFault.{TypeFault}
use Rattle.cu_types.specs.declared.inference.TypeFault.TheVariants as fault
use Rattle.cu_types.specs.declared.unification.Clash.{Clash}

-- The first dependency group that can't be typed begins with f: its equations have this clash.
pub record HasClash (kernel : Kernel) (f : FunId) (c : Clash) : Type 0 where
  pub interface : List TypeExpr
  pub others : List FunId
  pub comes_to : ComesTo kernel interface (f ∷ others)
  pub clash : Clashes (equations kernel interface (f ∷ others)) c

-- The first dependency group that can't be typed begins with f: nothing solves its equations.
pub record HasNoSolution (kernel : Kernel) (f : FunId) : Type 0 where
  pub interface : List TypeExpr
  pub others : List FunId
  pub comes_to : ComesTo kernel interface (f ∷ others)
  pub none : (σ : Substitution) → Solves σ (equations kernel interface (f ∷ others)) → ⊥

-- The first dependency group that can't be typed begins with f: its equations have solutions, and
-- none keeps to the declared types.
pub record HasBrokenSignature (kernel : Kernel) (f : FunId) : Type 0 where
  pub interface : List TypeExpr
  pub others : List FunId
  pub comes_to : ComesTo kernel interface (f ∷ others)
  pub breaks : BreaksSignature kernel interface (f ∷ others)

-- All functions have types, and the goal or a variable of it holds functions.
pub record HasFunctionalGoal (kernel : Kernel) : Type 0 where
  pub interface : List TypeExpr
  pub types : PrincipallyTyped kernel interface
  pub functional : is_functional interface kernel.goal ≡ true

-- the fault is why inference gives no interface; an allocation failure says nothing
abbrev pub IsTypeFault : Kernel → TypeFault → Type 0
IsTypeFault kernel (fault.TypeClash f c) = HasClash kernel f c
IsTypeFault kernel (fault.Signature f) = HasBrokenSignature kernel f
IsTypeFault kernel fault.GoalFunctional = HasFunctionalGoal kernel
IsTypeFault kernel fault.NoMemory = Unit {0}
