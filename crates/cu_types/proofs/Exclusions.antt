-- What a program is answered excludes what else it could be answered.
use Rattle.std.proofs.Common.{◌≡◌, ℕ, suc, ◌<◌, inl, inr, false, true, List, ◌∷◌, Some, slice_get, refl, sym, ap, ◌∙◌, subst, arith}
use Rattle.std.proofs.lemmas.Bool.{cases_eq, cases_lt}
use Rattle.cu_calculus.specs.declared.FunId.{FunId}
use Rattle.cu_kernel.specs.Kernel.{Kernel, program_of}
use Rattle.cu_kernel.specs.TypeExpr.{TypeExpr}
use Rattle.cu_lift.proofs.GroupLaws.{one_list}
use Rattle.cu_lift.specs.Groups.{AreGroups}
use Rattle.cu_types.proofs.OneInterface.{TypedBefore, next_agrees, one_interface}
use Rattle.cu_types.proofs.Unifying.{unified}
use Rattle.cu_types.specs.Equations.{equations, members}
use Rattle.cu_types.specs.Inference.{ComesTo, HasPrincipalTypes, IsInferred, KeepsDeclared, PrincipallyTyped, is_functional}
use Rattle.cu_types.specs.TypeFaults.{HasBrokenSignature, HasClash, HasFunctionalGoal, HasNoSolution, IsTypeFault}
use Rattle.cu_types.specs.Laws.{AreAlike}
use Rattle.cu_types.specs.Types.{Substitution}
use Rattle.cu_types.specs.Unification.{Solves}
use Rattle.cu_types.specs.declared.inference.TypeFault.{TypeFault}
use Rattle.cu_types.specs.declared.inference.TypeFault.TheVariants as fault
use Rattle.cu_types.specs.declared.unification.Clash.{Clash}

-- no solution of a group's equations keeps to the declared types
abbrev Fails : Kernel → List TypeExpr → List FunId → Type 0
Fails p i fs = (σ : Substitution) → Solves σ (equations p i fs) → KeepsDeclared σ (members p fs) → ⊥

none_keeps : (p : Kernel) (i : List TypeExpr) (fs : List FunId) → ((σ : Substitution) → Solves σ (equations p i fs) → ⊥) → Fails p i fs
none_keeps p i fs none = λ σ solves keeps. none σ solves

-- such a group has no types in another interface
refuted : (p : Kernel) (groups : List (List FunId)) (i j : List TypeExpr) (place : ℕ) (fs : List FunId) → AreGroups (program_of p) groups
    → slice_get groups place ≡ Some fs → TypedBefore p groups place i → Fails p i fs → TypedBefore p groups (suc place) j → ⊥
refuted p groups i j place fs are at before fails typed =
    let has : HasPrincipalTypes p j fs = typed place fs (omega arith) at in
    let earlier : TypedBefore p groups place j = λ k other less at_k. typed k other (omega (arith, less)) at_k in
    let same : equations p i fs ≡ equations p j fs = next_agrees p groups are i j place before earlier fs at in
    fails has.solution (subst (Solves has.solution) (sym same) has.general.solves) has.keeps

-- where all groups have types, none fails
typed_refutes : (p : Kernel) (i j : List TypeExpr) (fs : List FunId) → PrincipallyTyped p j → ComesTo p i fs → Fails p i fs → ⊥
typed_refutes p i j fs typed comes fails =
    refuted p comes.groups i j comes.place fs comes.are_groups comes.is_next comes.before fails
    (λ k other less at. typed.general other (comes.are_groups.each k other at))

-- the first group that fails, of one list of groups
one_group : (p : Kernel) (groups : List (List FunId)) (i j : List TypeExpr) (a b : ℕ) (fs gs : List FunId) → AreGroups (program_of p) groups
    → slice_get groups a ≡ Some fs → slice_get groups b ≡ Some gs → TypedBefore p groups a i → TypedBefore p groups b j
    → Fails p i fs → Fails p j gs → (fs ≡ gs) × (equations p i fs ≡ equations p j gs)
one_group p groups i j a b fs gs are at_a at_b before_a before_b fails_a fails_b = elim (cases_lt a b) [
  | inl less ↦
      absurd (refuted p groups i j a fs are at_a before_a fails_a (λ k other low at. before_b k other (omega (arith, low, less)) at))
  | inr more ↦ elim (cases_eq a b) [
    | inl same ↦
        let alike : fs ≡ gs = (let e : Some fs ≡ Some gs = sym at_a ∙ ap (slice_get groups) same ∙ at_b in cc) in
        let before : TypedBefore p groups a j = subst (λ (k : ℕ). TypedBefore p groups k j) (sym same) before_b in
        (alike, next_agrees p groups are i j a before_a before fs at_a ∙ ap (equations p j) alike)
    | inr other ↦
        let less : b < a = omega (arith, more, other) in
        absurd (refuted p groups j i b gs are at_b before_b fails_b (λ k other low at. before_a k other (omega (arith, low, less)) at))
  ]
]

one_failure : (p : Kernel) (i j : List TypeExpr) (fs gs : List FunId) → ComesTo p i fs → ComesTo p j gs → Fails p i fs → Fails p j gs
    → (fs ≡ gs) × (equations p i fs ≡ equations p j gs)
one_failure p i j fs gs one two fails_one fails_two =
    let same : two.groups ≡ one.groups = one_list (program_of p) two.groups one.groups two.are_groups one.are_groups in
    one_group p one.groups i j one.place two.place fs gs one.are_groups one.is_next
    (subst (λ (groups : List (List FunId)). slice_get groups two.place ≡ Some gs) same two.is_next) one.before
    (subst (λ (groups : List (List FunId)). TypedBefore p groups two.place j) same two.before) fails_one fails_two

first_same : (f g : FunId) (fs gs : List FunId) → f ∷ fs ≡ g ∷ gs → f ≡ g
first_same f g fs gs e = cc

unsolved_fails : (p : Kernel) (f : FunId) (is : HasNoSolution p f) → Fails p is.interface (f ∷ is.others)
unsolved_fails p f is = none_keeps p is.interface (f ∷ is.others) is.none

broken_fails : (p : Kernel) (f : FunId) (is : HasBrokenSignature p f) → Fails p is.interface (f ∷ is.others)
broken_fails p f is = is.breaks.none

-- ---- answers

pub unsolved_refutes : (p : Kernel) (i : List TypeExpr) (f : FunId) → PrincipallyTyped p i → HasNoSolution p f → ⊥
unsolved_refutes p i f typed is = typed_refutes p is.interface i (f ∷ is.others) typed is.comes_to (unsolved_fails p f is)

pub broken_refutes : (p : Kernel) (i : List TypeExpr) (f : FunId) → PrincipallyTyped p i → HasBrokenSignature p f → ⊥
broken_refutes p i f typed is = typed_refutes p is.interface i (f ∷ is.others) typed is.comes_to (broken_fails p f is)

pub one_unsolved : (p : Kernel) (f g : FunId) → HasNoSolution p f → HasNoSolution p g → f ≡ g
one_unsolved p f g one two =
    first_same f g one.others two.others
    (one_failure p one.interface two.interface (f ∷ one.others) (g ∷ two.others) one.comes_to two.comes_to (unsolved_fails p f one)
    (unsolved_fails p g two)).0

pub one_broken : (p : Kernel) (f g : FunId) → HasBrokenSignature p f → HasBrokenSignature p g → f ≡ g
one_broken p f g one two =
    first_same f g one.others two.others
    (one_failure p one.interface two.interface (f ∷ one.others) (g ∷ two.others) one.comes_to two.comes_to (broken_fails p f one)
    (broken_fails p g two)).0

pub unsolved_or_broken : (p : Kernel) (f g : FunId) → HasNoSolution p f → HasBrokenSignature p g → ⊥
unsolved_or_broken p f g one two =
    let same = one_failure p one.interface two.interface (f ∷ one.others) (g ∷ two.others) one.comes_to two.comes_to (unsolved_fails p f one)
    (broken_fails p g two) in
    one.none two.breaks.solution (subst (Solves two.breaks.solution) (sym same.1) two.breaks.solves)

pub data_or_functional : (p : Kernel) (i : List TypeExpr) → IsInferred p i → HasFunctionalGoal p → ⊥
data_or_functional p i is functional =
    let same : i ≡ functional.interface = one_interface p i functional.interface is.types functional.types in
    let no : false ≡ true = sym is.data_goal ∙ ap (λ (types : List TypeExpr). is_functional types p.goal) same ∙ functional.functional in
    let none : ⊥ = cc in
    none

-- what has a clash has no solution
pub clash_unsolved : (p : Kernel) (f : FunId) (c : Clash) → HasClash p f c → HasNoSolution p f
clash_unsolved p f c is = record {
  interface = is.interface;
  others = is.others;
  comes_to = is.comes_to;
  none = λ σ solves.
      is.clash.clash.apart σ (unified (equations p is.interface (f ∷ is.others)) σ solves _ _ is.clash.clash.made_equal);
}

pub no_fault : (p : Kernel) (i : List TypeExpr) (a : TypeFault) → IsInferred p i → IsTypeFault p a → a ≡ fault.NoMemory
no_fault p i (fault.TypeClash f c) is told = absurd (unsolved_refutes p i f is.types (clash_unsolved p f c told))
no_fault p i (fault.Signature f) is told = absurd (broken_refutes p i f is.types told)
no_fault p i fault.GoalFunctional is told = absurd (data_or_functional p i is told)
no_fault p i fault.NoMemory is told = refl

-- where all functions have types, no group fails
pub functional_alone : (p : Kernel) (a : TypeFault) → HasFunctionalGoal p → IsTypeFault p a → AreAlike fault.GoalFunctional a
functional_alone p (fault.TypeClash f c) is told = absurd (unsolved_refutes p is.interface f is.types (clash_unsolved p f c told))
functional_alone p (fault.Signature f) is told = absurd (broken_refutes p is.interface f is.types told)
functional_alone p fault.GoalFunctional is told = tt
functional_alone p fault.NoMemory is told = tt

pub faults_alike : (p : Kernel) (a b : TypeFault) → IsTypeFault p a → IsTypeFault p b → AreAlike a b
faults_alike p fault.NoMemory b one two = tt
faults_alike p fault.GoalFunctional b one two = functional_alone p b one two
faults_alike p (fault.TypeClash f c) (fault.TypeClash g d) one two =
    one_unsolved p f g (clash_unsolved p f c one) (clash_unsolved p g d two)
faults_alike p (fault.TypeClash f c) (fault.Signature g) one two = unsolved_or_broken p f g (clash_unsolved p f c one) two
faults_alike p (fault.TypeClash f c) fault.GoalFunctional one two =
    absurd (unsolved_refutes p two.interface f two.types (clash_unsolved p f c one))
faults_alike p (fault.TypeClash f c) fault.NoMemory one two = tt
faults_alike p (fault.Signature f) (fault.TypeClash g d) one two = unsolved_or_broken p g f (clash_unsolved p g d two) one
faults_alike p (fault.Signature f) (fault.Signature g) one two = one_broken p f g one two
faults_alike p (fault.Signature f) fault.GoalFunctional one two = absurd (broken_refutes p two.interface f two.types one)
faults_alike p (fault.Signature f) fault.NoMemory one two = tt
