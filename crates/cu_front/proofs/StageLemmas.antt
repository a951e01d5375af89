-- Faults of names and of goals, and the programs after them.
use Rattle.std.proofs.Common.{◌≡◌, ◌∙◌, ◌-◌, ◌<◌, ℕ, suc, Bool, List, [], Option, None, Some, IfErr, IfOk, Result, Ok, Err, arith, length, refl, sym, ap, subst}
use Rattle.cu_declared.specs.declared.fault.TypeArity.{TypeArity}
use Rattle.cu_declared.specs.declared.fault.TypeArity.TheVariants as arity
use Rattle.cu_declared.specs.declared.fault.TypeNameFault.{TypeNameFault}
use Rattle.cu_declared.specs.declared.fault.TypeNameFault.TheVariants as type_names
use Rattle.cu_declared.specs.Telling as telling
use Rattle.cu_declared.specs.Telling.{TellsGoalFault, wrong_at}
use Rattle.cu_declared.specs.TypeFaults as type_faults
use Rattle.cu_declared.specs.TypeFaults.{AreRight, IsGoalRight}
use Rattle.cu_kernel.specs.LocalKernel.{Follows, LocalKernel}
use Rattle.cu_lex.specs.Reading.{position_of}
use Rattle.cu_names.specs.Texts.{text_of}
use Rattle.cu_syntax.specs.Syntax.{Goal}
use Rattle.cu_modules.specs.declared.scope_fault.ScopeFault.{ScopeFault}
use Rattle.cu_modules.specs.declared.scope_fault.ScopeFault.TheVariants as scope
use Rattle.cu_modules.specs.Means.{AreScoped, IsGoalScoped, IsGoalWrong, IsWrong}
use Rattle.cu_modules.specs.ScopeAnswers.{FaultIsKnown, TellsFault}
use Rattle.cu_modules.specs.Scopes.{Named}
use Rattle.cu_translation.specs.FaultOrder.{Fault, first_fault}
use Rattle.cu_translation.specs.Faults.{goal_clashes, goal_faults}
use Rattle.cu_translation.specs.Parts.{goal_names, goal_part, module_part}
use Rattle.cu_translation.specs.Translation as translation
use Rattle.cu_translation.specs.Translation.{goal_translation, outcome}
use Rattle.cu_translation.specs.Functions.{goal_name}
use Rattle.cu_desugar.specs.Translated.{goal_translated}
use Rattle.cu_uses.specs.Faults as uses
use Rattle.cu_front.specs.Compiling as meant
use Rattle.cu_front.specs.Compiling.{GoalRefused, ModulesRefused, whole_program}
use Rattle.cu_front.specs.declared.fault.StageFault.{StageFault}
use Rattle.cu_front.specs.declared.fault.StageFault.TheVariants as stage
use Rattle.cu_front.specs.declared.outcome.Outcome as code
use Rattle.cu_front.specs.declared.outcome.Outcome.TheVariants as found
use Rattle.cu_front.specs.GoalTexts.{GoalIsRead}
use Rattle.cu_front.specs.Inside.Outcomes.{Follow, IsOutcome, followed_by, kept}
use Rattle.cu_front.specs.Inside.Stages.{IsInNames, IsInTypes, IsWhole, RefusesModules, fault_of_goal_types, fault_of_scope, fault_of_types, goal_told, part_of_goal, told_by}
use Rattle.cu_front.specs.Names.{IsGoalTable, IsTable}
use Rattle.cu_front.specs.Refusal.{InNames, Refusal, in_functions, in_types}
use Rattle.cu_front.specs.RefusalMeaning.{refusal_meaning}
use Rattle.cu_front.specs.Inside.StageFaults.{IsUnread, Tells}
use Rattle.cu_front.specs.Translated.{modules_program, translation_refusal}
use Rattle.cu_front.proofs.FunctionLemmas.{IsRefusedFor}
use Rattle.cu_front.proofs.ModuleLemmas.{ModulesFollow, follow_by, is_after, upto_follows}
use Rattle.cu_front.proofs.RunLemmas.{tells_weaker}
use Rattle.cu_front.proofs.TableLemmas.{known_goal_name}

-- ---- names

in_names : (P : List ℕ → uses.Fault → Type 0) (owner : List ℕ) (fault : uses.Fault) → P owner fault → IsInNames P (InNames owner fault)
in_names P owner fault wrong = record { owner = owner; fault = fault; wrong = wrong; is = refl }

scope_by : (names : List (List ℕ)) (P : List ℕ → uses.Fault → Type 0) (fault : ScopeFault) → TellsFault names P fault → FaultIsKnown names fault
    → Tells names (IsInNames P) (fault_of_scope fault)
scope_by names P (scope.NotExported place id) tells known = (in_names P _ _ tells, known)
scope_by names P (scope.UnknownName place id) tells known = (in_names P _ _ tells, known)
scope_by names P (scope.Ambiguous place id) tells known = (in_names P _ _ tells, known)
scope_by names P (scope.Duplicate place id) tells known = (in_names P _ _ tells, known)
scope_by names P scope.NoMemory tells known = tt

pub scope_told : (names : List (List ℕ)) (P : List ℕ → uses.Fault → Type 0) (fault : ScopeFault) (told : StageFault) → told ≡ fault_of_scope fault
    → TellsFault names P fault → FaultIsKnown names fault → Tells names (IsInNames P) told
scope_told names P fault told is tells known = subst (Tells names (IsInNames P)) (sym is) (scope_by names P fault tells known)

pub modules_wrong : (names : List (List ℕ)) (modules : List Named) (root : List ℕ) (told : StageFault)
    → Tells names (IsInNames (IsWrong modules)) told → Tells names (RefusesModules modules root) told
modules_wrong names modules root told is =
    tells_weaker names (IsInNames (IsWrong modules)) (RefusesModules modules root) told
    (λ refusal r held walk.
    subst (ModulesRefused held root) (sym r.is) (meant.ModulesRefused.names modules r.owner r.fault walk r.wrong)) is

pub modules_refused : (names : List (List ℕ)) (modules : List Named) (root : List ℕ) (told : StageFault) → AreScoped [] modules → AreRight modules
    → IsTable modules names
    → Tells names (λ refusal. translation_refusal names modules ≡ Some refusal) told → Tells names (RefusesModules modules root) told
modules_refused names modules root told scoped right table is =
    tells_weaker names (λ refusal. translation_refusal names modules ≡ Some refusal) (RefusesModules modules root) told
    (λ refusal e held walk. meant.ModulesRefused.functions modules names refusal walk scoped right table e) is

-- ---- types

in_types_with : (P : List ℕ → type_faults.Fault → Type 0) (owner : List ℕ) (fault : type_faults.Fault) → P owner fault
    → IsInTypes P (in_types owner fault)
in_types_with P owner fault wrong = record { owner = owner; fault = fault; wrong = wrong; is = refl }

types_by : (names : List (List ℕ)) (P : List ℕ → type_faults.Fault → Type 0) (fault : TypeNameFault) → telling.TellsFault names P fault
    → telling.FaultIsKnown names fault → Tells names (IsInTypes P) (fault_of_types fault)
types_by names P (type_names.TypeArity place) tells known =
    (in_types_with P (text_of names place.«module») (wrong_at type_faults.TypeArity (position_of place)) tells, known)
types_by names P (type_names.SynonymCycle id) tells known =
    (in_types_with P tells.0 (wrong_at (type_faults.SynonymCycle (text_of names id)) tells.1) tells.2, known)
types_by names P type_names.NoMemory tells known = tt

pub types_told : (names : List (List ℕ)) (P : List ℕ → type_faults.Fault → Type 0) (fault : TypeNameFault) (told : StageFault)
    → told ≡ fault_of_types fault → telling.TellsFault names P fault → telling.FaultIsKnown names fault → Tells names (IsInTypes P) told
types_told names P fault told is tells known = subst (Tells names (IsInTypes P)) (sym is) (types_by names P fault tells known)

pub types_wrong : (names : List (List ℕ)) (modules : List Named) (root : List ℕ) (told : StageFault) → AreScoped [] modules
    → Tells names (IsInTypes (type_faults.IsWrong modules)) told → Tells names (RefusesModules modules root) told
types_wrong names modules root told scoped is =
    tells_weaker names (IsInTypes (type_faults.IsWrong modules)) (RefusesModules modules root) told
    (λ refusal r held walk.
    subst (ModulesRefused held root) (sym r.is) (meant.ModulesRefused.types modules r.owner r.fault walk scoped r.wrong)) is

-- ---- goals

-- a goal whose names are right
pub record IsRightGoal (names : List (List ℕ)) (modules : List Named) (k : ℕ) (text : List ℕ) (goal : Goal) : Type 0 where
  pub read : GoalIsRead text (Ok goal)
  pub scoped : IsGoalScoped modules k goal
  pub types : IsGoalRight modules k goal
  pub is_table : IsGoalTable modules goal names

-- what names say of a goal
abbrev pub IsWrongGoal : List ℕ → List Named → ℕ → Goal → List ℕ → uses.Fault → Type 0
IsWrongGoal owner modules k goal name fault = (name ≡ owner) × IsGoalWrong modules k goal fault

pub goal_wrong : (names : List (List ℕ)) (modules : List Named) (k : ℕ) (text owner : List ℕ) (goal : Goal) (told : StageFault) → owner ≡ goal_name
    → GoalIsRead text (Ok goal) → Tells names (IsInNames (IsWrongGoal owner modules k goal)) told
    → IfOk (kept told) (IsWhole names modules k text)
goal_wrong names modules k text owner goal (stage.Refused refusal) named reads is =
    let r = is.0 in (
      subst (GoalRefused modules k text)
          (sym (r.is ∙ ap (λ (o : List ℕ). InNames o r.fault) (r.wrong.0 ∙ named)))
          (meant.GoalRefused.names goal r.fault reads r.wrong.1),
      is.1,
    )
goal_wrong names modules k text owner goal stage.NoMemory named reads is = tt

-- what types say of a goal
abbrev pub IsWrongInTypes : List ℕ → List Named → ℕ → Goal → List ℕ → type_faults.Fault → Type 0
IsWrongInTypes owner modules k goal name fault = (name ≡ owner) × type_faults.IsGoalWrong modules k goal fault

goal_types_by : (names : List (List ℕ)) (modules : List Named) (k : ℕ) (owner : List ℕ) (goal : Goal) (fault : TypeArity) → owner ≡ goal_name
    → TellsGoalFault names (IsWrongInTypes owner modules k goal) fault
    → Tells names (IsInTypes (IsWrongInTypes owner modules k goal)) (fault_of_goal_types fault)
goal_types_by names modules k owner goal (arity.At place) named tells = (
  in_types_with (IsWrongInTypes owner modules k goal) (text_of names place.«module»)
      (wrong_at type_faults.TypeArity (position_of place)) tells,
  known_goal_name names place.«module» (tells.0 ∙ named),
)
goal_types_by names modules k owner goal arity.NoMemory named tells = tt

pub goal_types_told : (names : List (List ℕ)) (modules : List Named) (k : ℕ) (owner : List ℕ) (goal : Goal) (fault : TypeArity) (told : StageFault)
    → owner ≡ goal_name → told ≡ fault_of_goal_types fault → TellsGoalFault names (IsWrongInTypes owner modules k goal) fault
    → Tells names (IsInTypes (IsWrongInTypes owner modules k goal)) told
goal_types_told names modules k owner goal fault told named is tells =
    subst (Tells names (IsInTypes (IsWrongInTypes owner modules k goal))) (sym is) (goal_types_by names modules k owner goal fault named tells)

pub goal_types_wrong : (names : List (List ℕ)) (modules : List Named) (k : ℕ) (text owner : List ℕ) (goal : Goal) (told : StageFault)
    → owner ≡ goal_name → GoalIsRead text (Ok goal) → IsGoalScoped modules k goal
    → Tells names (IsInTypes (IsWrongInTypes owner modules k goal)) told → IfOk (kept told) (IsWhole names modules k text)
goal_types_wrong names modules k text owner goal (stage.Refused refusal) named reads scoped is =
    let r = is.0 in (
      subst (GoalRefused modules k text)
          (sym (r.is ∙ ap (λ (o : List ℕ). in_types o r.fault) (r.wrong.0 ∙ named)))
          (meant.GoalRefused.types goal r.fault reads scoped r.wrong.1),
      is.1,
    )
goal_types_wrong names modules k text owner goal stage.NoMemory named reads scoped is = tt

pub goal_unread : (names : List (List ℕ)) (modules : List Named) (k : ℕ) (text : List ℕ) (told : StageFault) → Tells names (IsUnread goal_name text) told
    → IfOk (kept told) (IsWhole names modules k text)
goal_unread names modules k text (stage.Refused refusal) is =
    let r = is.0 in (
      subst (GoalRefused modules k text) (sym r.refused) (meant.GoalRefused.unread r.fault r.read),
      is.1,
    )
goal_unread names modules k text stage.NoMemory is = tt

by_right : (owner : List ℕ) (clash other : Option Fault) (part program : LocalKernel) → outcome clash other part ≡ translation.Translated program
    → (told_by owner (outcome clash other part) ≡ None) × (program ≡ part)
by_right owner (Some c) other part program is = let absent : ⊥ = cc in absurd absent
by_right owner None (Some o) part program is = let absent : ⊥ = cc in absurd absent
by_right owner None None part program is = let same : program ≡ part = cc in (refl, same)

-- a goal's part
pub goal_part_is : (names : List (List ℕ)) (modules : List Named) (k : ℕ) (goal : Goal) (program : LocalKernel)
    → goal_translated names modules k goal ≡ translation.Translated program
    → IsOutcome names (goal_told names modules k goal) (part_of_goal names modules k goal) (found.Program program)
unfolding goal_translated goal_told part_of_goal
goal_part_is names modules k goal program is =
    by_right goal_name (first_fault (goal_clashes (goal_names names modules k) goal)) (first_fault (goal_faults (goal_names names modules k) goal))
    (goal_part names modules k goal) program is

-- a fault of its functions
pub goal_refused : (names : List (List ℕ)) (modules : List Named) (k : ℕ) (goal : Goal) (owner : List ℕ) (clash : Bool) (part : LocalKernel)
    (told : StageFault) → owner ≡ goal_name → Tells names (IsRefusedFor owner clash (goal_translated names modules k goal)) told
    → IfOk (kept told) (IsOutcome names (goal_told names modules k goal) part)
unfolding goal_translated goal_told
goal_refused names modules k goal owner clash part (stage.Refused refusal) named is =
    let r = is.0 in (
      ap (told_by goal_name) r.refused ∙ ap (λ (o : List ℕ). Some (in_functions o r.fault)) (sym named) ∙ ap Some r.told,
      is.1,
    )
goal_refused names modules k goal owner clash part stage.NoMemory named is = tt

translated_by : (owner : List ℕ) (clash other : Option Fault) (part : LocalKernel) → told_by owner (outcome clash other part) ≡ None
    → outcome clash other part ≡ translation.Translated part
translated_by owner (Some c) other part is = let absent : ⊥ = cc in absurd absent
translated_by owner None (Some o) part is = let absent : ⊥ = cc in absurd absent
translated_by owner None None part is = refl

refused_by : (names : List (List ℕ)) (modules : List Named) (k : ℕ) (text : List ℕ) (goal : Goal) (refusal : Refusal) (o : translation.Outcome)
    → IsRightGoal names modules k text goal → goal_translation names modules k goal ≡ o → told_by goal_name o ≡ Some refusal
    → GoalRefused modules k text refusal
refused_by names modules k text goal refusal (translation.Translated part) right is told = let absent : ⊥ = cc in absurd absent
refused_by names modules k text goal refusal (translation.Refused fault) right is told =
    let same : in_functions goal_name fault ≡ refusal = cc in
    subst (GoalRefused modules k text) same (meant.GoalRefused.functions goal names fault right.read right.scoped right.types right.is_table is)

-- the whole of modules and a goal
pub whole_is : (names : List (List ℕ)) (modules : List Named) (k : ℕ) (text : List ℕ) (goal : Goal) (outcome : code.Outcome)
    → IsRightGoal names modules k text goal
    → IsOutcome names (goal_told names modules k goal) (whole_program names modules k goal) outcome
    → IsWhole names modules k text outcome
unfolding goal_told
whole_is names modules k text goal (found.Program program) right is = record {
  goal = goal;
  read = right.read;
  scoped = right.scoped;
  types = right.types;
  is_table = right.is_table;
  translated =
      translated_by goal_name (first_fault (goal_clashes (goal_names names modules k) goal))
      (first_fault (goal_faults (goal_names names modules k) goal)) (goal_part names modules k goal) is.0;
  is = is.1;
}
whole_is names modules k text goal (found.Refused refusal) right is =
    (refused_by names modules k text goal (refusal_meaning names refusal) (goal_translation names modules k goal) right refl is.0, is.1)

pub whole_of : (names : List (List ℕ)) (modules : List Named) (k : ℕ) (text : List ℕ) (goal : Goal) (result : Result code.Outcome StageFault)
    → IsRightGoal names modules k text goal
    → IfOk result (IsOutcome names (goal_told names modules k goal) (whole_program names modules k goal)) → IfOk result (IsWhole names modules k text)
whole_of names modules k text goal (Ok outcome) right is = whole_is names modules k text goal outcome right is
whole_of names modules k text goal (Err fault) right is = tt

-- ---- after the modules

abbrev pub GoalsFollow : Type 0
GoalsFollow = (table : List (List ℕ)) (modules : List Named) (root k : ℕ) (goal : Goal) → length modules ≡ suc k
    → Follows (module_part table modules k) (goal_part table modules root goal)

pub goal_follows : ModulesFollow → GoalsFollow → (names : List (List ℕ)) (modules : List Named) (k : ℕ) (goal : Goal) (program : LocalKernel)
    (part : code.Outcome) (told : Option Refusal) → k < length modules → program ≡ modules_program names modules
    → IsOutcome names told (part_of_goal names modules k goal) part → Follow (found.Program program) part
unfolding part_of_goal modules_program
goal_follows follow goals names modules k goal program part told below is then =
    let last = length modules - 1 in
    let size : length modules ≡ suc last = omega (arith, below) in
    let within : last < length modules = omega (arith, below) in
    follow_by names None told (modules_program names modules) (goal_part names modules k goal) (found.Program program) part
    (upto_follows follow names modules last within (goal_part names modules k goal) (goals names modules k last goal size)) (refl, is) then

pub goal_after : (names : List (List ℕ)) (modules : List Named) (k : ℕ) (goal : Goal) (program : LocalKernel) (part whole : code.Outcome)
    (told : Option Refusal) → program ≡ modules_program names modules → IsOutcome names told (part_of_goal names modules k goal) part
    → whole ≡ followed_by (found.Program program) part → IsOutcome names told (whole_program names modules k goal) whole
unfolding part_of_goal whole_program
goal_after names modules k goal program part whole told is then same =
    subst (IsOutcome names told (whole_program names modules k goal)) (sym same)
    (is_after names None told (modules_program names modules) (goal_part names modules k goal) (found.Program program) part (refl, is) then)

-- ---- faults that are told later

pub kept_memory : (told : StageFault) → IfErr (kept told) (λ fault. fault ≡ stage.NoMemory)
kept_memory (stage.Refused refusal) = tt
kept_memory stage.NoMemory = refl
