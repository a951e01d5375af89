-- A program is refused with one refusal, or can be run with one interface and one flat program.
use Rattle.std.proofs.Common.{◌≡◌, ℕ, List, ◌∷◌, refl, ap}
use Rattle.cu_calculus.specs.Program.{Program}
use Rattle.cu_calculus.specs.declared.FunId.{FunId}
use Rattle.cu_front.specs.Programs as cannot
use Rattle.cu_front.specs.Programs.{CanRun, CannotRun, HasLevels, IsTypable, function_text}
use Rattle.cu_front.specs.Refusal.{Refusal, SetRecursion, Signature, TreeTooBig, TypeClash}
use Rattle.cu_front_laws.proofs.OneLowering.{FlatProgramsAgree, flat_or_too_big, one_flat, one_too_big}
use Rattle.cu_front_laws.proofs.OneRecursion.{one_first}
use Rattle.cu_kernel.specs.Kernel.{Kernel, program_of}
use Rattle.cu_kernel.specs.TypeExpr.{TypeExpr}
use Rattle.cu_lift.specs.SetCycles.{IsSetRecursion}
use Rattle.cu_types.specs.Laws.{AnswersExclude, FaultsAgree, InterfacesAgree}
use Rattle.cu_types.specs.TypeFaults.{HasBrokenSignature, HasFunctionalGoal, HasNoSolution}

-- what is told of one function is one thing
same_text : (told : List ℕ → Refusal) (names : List (List ℕ)) (program : Kernel) (f g : FunId) → f ≡ g
    → told (function_text names program f) ≡ told (function_text names program g)
same_text told names program f g e = ap (λ (h : FunId). told (function_text names program h)) e

-- what the layers below say
pub record Laws : Type 0 where
  pub interfaces : InterfacesAgree
  pub exclude : AnswersExclude
  pub faults : FaultsAgree
  pub flat : FlatProgramsAgree

-- set levels, or a recursion
levelled : (program : Kernel) (cycle : List FunId) → HasLevels program → IsSetRecursion (program_of program) cycle → ⊥
levelled program cycle levels recursion = recursion.no_levels levels.0 levels.1

module _ (laws : Laws) (program : Kernel) where
  -- types for all functions, or a first group that has none
  solved : (f : FunId) → IsTypable program → HasNoSolution program f → ⊥
  solved f typable none = laws.exclude.solutions program typable.0 f typable.1 none

  kept : (f : FunId) → IsTypable program → HasBrokenSignature program f → ⊥
  kept f typable broken = laws.exclude.signatures program typable.0 f typable.1 broken

  typable : HasFunctionalGoal program → IsTypable program
  typable goal = (goal.interface, goal.types)

  pub one_refusal : (names : List (List ℕ)) (r s : Refusal) → CannotRun names program r → CannotRun names program s → r ≡ s
  one_refusal names _ _ (cannot.sets f fs one) (cannot.sets g gs two) =
      same_text SetRecursion names program f g (one_first (program_of program) f g fs gs one two)
  one_refusal names _ _ (cannot.sets f fs one) (cannot.clash g levels two) = absurd (levelled program (f ∷ fs) levels one)
  one_refusal names _ _ (cannot.sets f fs one) (cannot.signature g levels two) = absurd (levelled program (f ∷ fs) levels one)
  one_refusal names _ _ (cannot.sets f fs one) (cannot.size g levels types two) = absurd (levelled program (f ∷ fs) levels one)
  one_refusal names _ _ (cannot.sets f fs one) (cannot.functional flat levels goal two) = absurd (levelled program (f ∷ fs) levels one)
  one_refusal names _ _ (cannot.clash f levels one) (cannot.sets g gs two) = absurd (levelled program (g ∷ gs) levels two)
  one_refusal names _ _ (cannot.clash f levels one) (cannot.clash g more two) =
      same_text TypeClash names program f g (laws.faults.solutions program f g one two)
  one_refusal names _ _ (cannot.clash f levels one) (cannot.signature g more two) = absurd (laws.exclude.group program f g one two)
  one_refusal names _ _ (cannot.clash f levels one) (cannot.size g more types two) = absurd (solved f types one)
  one_refusal names _ _ (cannot.clash f levels one) (cannot.functional flat more goal two) = absurd (solved f (typable goal) one)
  one_refusal names _ _ (cannot.signature f levels one) (cannot.sets g gs two) = absurd (levelled program (g ∷ gs) levels two)
  one_refusal names _ _ (cannot.signature f levels one) (cannot.clash g more two) = absurd (laws.exclude.group program g f two one)
  one_refusal names _ _ (cannot.signature f levels one) (cannot.signature g more two) =
      same_text Signature names program f g (laws.faults.signatures program f g one two)
  one_refusal names _ _ (cannot.signature f levels one) (cannot.size g more types two) = absurd (kept f types one)
  one_refusal names _ _ (cannot.signature f levels one) (cannot.functional flat more goal two) = absurd (kept f (typable goal) one)
  one_refusal names _ _ (cannot.size f levels types one) (cannot.sets g gs two) = absurd (levelled program (g ∷ gs) levels two)
  one_refusal names _ _ (cannot.size f levels types one) (cannot.clash g more two) = absurd (solved g types two)
  one_refusal names _ _ (cannot.size f levels types one) (cannot.signature g more two) = absurd (kept g types two)
  one_refusal names _ _ (cannot.size f levels types one) (cannot.size g more others two) =
      same_text TreeTooBig names program f g (one_too_big laws.flat (program_of program) f g one two)
  one_refusal names _ _ (cannot.size f levels types one) (cannot.functional flat more goal two) =
      absurd (flat_or_too_big laws.flat (program_of program) flat f two one)
  one_refusal names _ _ (cannot.functional flat levels goal one) (cannot.sets g gs two) = absurd (levelled program (g ∷ gs) levels two)
  one_refusal names _ _ (cannot.functional flat levels goal one) (cannot.clash g more two) = absurd (solved g (typable goal) two)
  one_refusal names _ _ (cannot.functional flat levels goal one) (cannot.signature g more two) = absurd (kept g (typable goal) two)
  one_refusal names _ _ (cannot.functional flat levels goal one) (cannot.size g more types two) =
      absurd (flat_or_too_big laws.flat (program_of program) flat g one two)
  one_refusal names _ _ (cannot.functional flat levels goal one) (cannot.functional other more same two) = refl

  pub none_refused : (names : List (List ℕ)) (interface : List TypeExpr) (flat : Program) (r : Refusal) → CanRun program interface flat
      → CannotRun names program r → ⊥
  none_refused names interface flat _ runs (cannot.sets f fs recursion) = levelled program (f ∷ fs) runs.lowering.levels recursion
  none_refused names interface flat _ runs (cannot.clash f levels none) = solved f (interface, runs.types.types) none
  none_refused names interface flat _ runs (cannot.signature f levels broken) = kept f (interface, runs.types.types) broken
  none_refused names interface flat _ runs (cannot.size f levels types big) =
      flat_or_too_big laws.flat (program_of program) flat f runs.lowering.lowered big
  none_refused names interface flat _ runs (cannot.functional other levels goal small) =
      laws.exclude.goal program interface runs.types goal

  pub one_program : (i j : List TypeExpr) (flat other : Program) → CanRun program i flat → CanRun program j other → (i ≡ j) × (flat ≡ other)
  one_program i j flat other one two = (
    laws.interfaces program i j one.types.types two.types.types,
    one_flat laws.flat (program_of program) flat other one.lowering.lowered two.lowering.lowered,
  )
