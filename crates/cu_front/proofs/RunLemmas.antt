-- Why a program can't be run, told of a function.
use Rattle.std.proofs.Common.{◌≡◌, ℕ, List, [], ◌∷◌, ◌++◌, IfErr, IfOk, IsErrAnd, Ok, Err, Result, sym, subst}
use Rattle.cu_calculus.specs.Program as calculus
use Rattle.cu_calculus.specs.declared.FunId.{FunId}
use Rattle.cu_deftree.specs.LoweredProgram.{Lowering}
use Rattle.cu_deftree.specs.NotLowered.{IsLowerFault}
use Rattle.cu_deftree.specs.declared.functions.LowerFault.{LowerFault}
use Rattle.cu_deftree.specs.declared.functions.LowerFault.TheVariants as lowering
use Rattle.cu_kernel.specs.Kernel.{Kernel, program_of}
use Rattle.cu_kernel.specs.LocalKernel.{LocalKernel}
use Rattle.cu_lift.specs.SetCycles.{IsSetRecursion}
use Rattle.cu_types.specs.Laws.{ClashesLeaveNoSolution}
use Rattle.cu_types.specs.TypeFaults.{HasBrokenSignature, HasClash, IsTypeFault}
use Rattle.cu_types.specs.declared.inference.TypeFault.{TypeFault}
use Rattle.cu_types.specs.declared.inference.TypeFault.TheVariants as typing
use Rattle.cu_types.specs.declared.unification.Clash.{Clash}
use Rattle.cu_front.specs.Inside.Typings.{IsTyping}
use Rattle.cu_front.specs.Programs.{CannotRun, HasLevels, IsLifted, IsTypable, clash, function_text, functional, sets, signature, size}
use Rattle.cu_front.specs.Refusal.{GoalFunctional, Refusal, SetRecursion, Signature, TreeTooBig, TypeClash}
use Rattle.cu_front.specs.Inside.Runnable.{IsNotRunnable}
use Rattle.cu_front.specs.Inside.StageFaults.{Tells}
use Rattle.cu_front.specs.declared.fault.StageFault.{StageFault}
use Rattle.cu_front.specs.declared.fault.StageFault.TheVariants as stage
use Rattle.cu_front.specs.declared.runnable.Typing.{Typing}
use Rattle.cu_front.specs.declared.runnable.Typing.TheVariants as found

-- what is told has a weaker property too
pub tells_weaker : (names : List (List ℕ)) (P Q : Refusal → Type 0) (fault : StageFault)
    → ((refusal : Refusal) → P refusal → Q refusal) → Tells names P fault → Tells names Q fault
tells_weaker names P Q (stage.Refused refusal) weaker told = (weaker _ told.0, told.1)
tells_weaker names P Q stage.NoMemory weaker told = tt

-- an error that is passed on
pub err_same : {A : Type 0} (P : StageFault → Type 0) (result : Result A StageFault) (fault : StageFault) → IsErrAnd result (λ e. e ≡ fault)
    → P fault → IfErr result P
err_same P (Ok a) fault is holds = absurd is
err_same P (Err e) fault is holds = subst P (sym is) holds

-- a value that is passed on
pub ok_same : {A : Type 0} (P : A → Type 0) (result : Result A StageFault) (found : A) → IfOk result (λ same. same ≡ found) → P found
    → IfOk result P
ok_same P (Ok a) found is holds = subst P (sym is) holds
ok_same P (Err e) found is holds = tt

-- an allocation failure says nothing
pub memory_told : {A : Type 0} (names : List (List ℕ)) (P : Refusal → Type 0) (result : Result A StageFault)
    → IfErr result (λ fault. fault ≡ stage.NoMemory) → IfErr result (Tells names P)
memory_told names P (Ok a) is = tt
memory_told names P (Err e) is = subst (Tells names P) (sym is) tt

not_empty : (prefix : List FunId) (f : FunId) (suffix : List FunId) → ¬ ([] ≡ prefix ++ f ∷ suffix)
not_empty [] f suffix e = let no : ⊥ = cc in no
not_empty (g ∷ prefix) f suffix e = let no : ⊥ = cc in no

pub sets_told : (names : List (List ℕ)) (program : Kernel) (cycle found : List FunId)
    (result : StageFault) → found ≡ cycle → IsSetRecursion (program_of program) cycle
    → ((first : FunId) (others : List FunId) → found ≡ first ∷ others
    → Tells names (λ refusal. refusal ≡ SetRecursion (function_text names program first)) result)
    → Tells names (CannotRun names program) result
sets_told names program [] found result same recursion told =
    absurd (not_empty recursion.is_cycle.prefix recursion.is_cycle.caller recursion.is_cycle.suffix
    recursion.is_cycle.whole)
sets_told names program (first ∷ others) found result same recursion told =
    tells_weaker names (λ refusal. refusal ≡ SetRecursion (function_text names program first))
    (CannotRun names program) result
    (λ refusal e. subst (CannotRun names program) (sym e) (sets first others recursion))
    (told first others same)

-- ---- types

-- a group of functions without types, told of its first function
pub clash_told : (names : List (List ℕ)) (program : Kernel) (f : FunId) (c : Clash) (fault : TypeFault) (result : StageFault)
    → fault ≡ typing.TypeClash f c → ClashesLeaveNoSolution → HasLevels program → IsTypeFault program fault
    → Tells names (λ refusal. refusal ≡ TypeClash (function_text names program f)) result
    → Tells names (CannotRun names program) result
clash_told names program f c fault result is leave levels clashes told =
    let has : HasClash program f c = subst (IsTypeFault program) is clashes in
    tells_weaker names (λ refusal. refusal ≡ TypeClash (function_text names program f))
    (CannotRun names program) result
    (λ refusal e. subst (CannotRun names program) (sym e) (clash f levels (leave program f c has))) told

-- a group of functions that doesn't keep to its declared types, told of its first function
pub signature_told : (names : List (List ℕ)) (program : Kernel) (f : FunId) (fault : TypeFault) (result : StageFault)
    → fault ≡ typing.Signature f → HasLevels program → IsTypeFault program fault
    → Tells names (λ refusal. refusal ≡ Signature (function_text names program f)) result
    → Tells names (CannotRun names program) result
signature_told names program f fault result is levels broken told =
    let has : HasBrokenSignature program f = subst (IsTypeFault program) is broken in
    tells_weaker names (λ refusal. refusal ≡ Signature (function_text names program f))
    (CannotRun names program) result
    (λ refusal e. subst (CannotRun names program) (sym e) (signature f levels has)) told

-- whatever the goal is, each function has its type
pub is_typable : (program : Kernel) (t : Typing) → IsTyping program t → IsTypable program
is_typable program (found.Data interface) is = (interface, is.types)
is_typable program found.Functional is = (is.interface, is.types)

-- ---- trees

pub size_told : (names : List (List ℕ)) (program : Kernel) (f : FunId) (fault : LowerFault)
    (result : StageFault) → fault ≡ lowering.TreeTooBig f → HasLevels program → IsTypable program
    → IsLowerFault (program_of program) fault
    → Tells names (λ refusal. refusal ≡ TreeTooBig (function_text names program f)) result
    → Tells names (CannotRun names program) result
size_told names program f fault result is levels types lowers told =
    let too_big : Lowering (program_of program) (Err f) =
    subst (IsLowerFault (program_of program)) is lowers in
    tells_weaker names (λ refusal. refusal ≡ TreeTooBig (function_text names program f))
    (CannotRun names program) result
    (λ refusal e. subst (CannotRun names program) (sym e) (size f levels types too_big)) told

-- ---- goals

-- a program whose goal holds functions can't be run
pub functional_told : (table names : List (List ℕ)) (local : LocalKernel) (program : Kernel) (flat : calculus.Program) (t : Typing)
    → t ≡ found.Functional → IsLifted table local names program → HasLevels program → IsTyping program t
    → Lowering (program_of program) (Ok flat) → IsNotRunnable table local names GoalFunctional
functional_told table names local program flat t is lifted levels typed lowers = record {
  program = program;
  lifted = lifted;
  cannot_run = functional flat levels (subst (IsTyping program) is typed) lowers;
}
