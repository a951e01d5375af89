-- Tables after the text of a goal.
use Rattle.std.proofs.Common.{◌≡◌, ◌∙◌, ◌<◌, ℕ, Bool, true, false, List, [], Option, None, Some, IfErr, IfOk, Ok, Result, cond, length, nat_lt, position, refl, slice_get, sym, ap, subst}
use Rattle.std.proofs.lemmas.Bool.{ltb-true}
use Rattle.std.proofs.lemmas.Option.{slice_get-get_or}
use Rattle.std.specs.List.{All, position_or_len}
use Rattle.cu_names.proofs.Growth.{extends-trans, interned-extends, known-extends, known_at, text_of-at, text_of-extends}
use Rattle.cu_names.specs.declared.names.NameId.{NameId}
use Rattle.cu_names.specs.Texts.{AllDiffer, Extends, interned, text_of}
use Rattle.cu_syntax.specs.Answer.{goal_meaning}
use Rattle.cu_syntax.specs.declared.text.GoalText.{GoalText}
use Rattle.cu_syntax.specs.Owners.{GoalIsOf}
use Rattle.cu_modules.proofs.MeaningLemmas.{modules_same}
use Rattle.cu_modules.specs.declared.modules.Module.{Module}
use Rattle.cu_modules.specs.Ordering.{AreOrdered, modules_of}
use Rattle.cu_calculus.specs.FlatProgram.{program_of}
use Rattle.cu_modules.specs.Reading.{HasModule}
use Rattle.cu_modules.specs.Scopes.{Named}
use Rattle.cu_modules.specs.Walk.{Walk}
use Rattle.cu_toplevel.proofs.TopLemmas.{id_is}
use Rattle.cu_translation.specs.ModuleNames.{id_of}
use Rattle.cu_translation.specs.Functions.{goal_name}
use Rattle.cu_front.specs.Compiling.{root_in}
use Rattle.cu_front.specs.declared.fault.StageFault.{StageFault}
use Rattle.cu_front.specs.GoalTexts.{GoalIsRead}
use Rattle.cu_front.specs.Compiling as meant
use Rattle.cu_front.specs.declared.programs.Programs.{Programs}
use Rattle.cu_front.specs.declared.runnable.Compiled.{Compiled}
use Rattle.cu_front.specs.Inside.Stages.{ArePrograms, CompileBoth, IsGoalRead, RefusesBoth, RefusesModules}
use Rattle.cu_front.proofs.RunLemmas.{tells_weaker}
use Rattle.cu_front.specs.Inside.StageFaults.{IsUnread, Tells}
use Rattle.cu_front.proofs.TableLemmas.{called, same_places}

-- ---- tables that grow

pub grows : (old named new : List (List ℕ)) (text : List ℕ) → named ≡ interned old text → Extends named new → Extends old new
grows old named new text is more = extends-trans (subst (Extends old) (sym is) (interned-extends old text)) more

-- a name keeps its place
pub stays_at : (old new : List (List ℕ)) (id : NameId) (text : List ℕ) → Extends old new → slice_get old id.0 ≡ Some text → slice_get new id.0 ≡ Some text
stays_at old new id text grown at =
    let known = known_at old id text at in
    slice_get-get_or new id.0 [] (known-extends grown id known) ∙ ap Some (text_of-extends grown id known ∙ text_of-at old id text at)

pub still_ordered : (old new : List (List ℕ)) (ms : List Module) → Extends old new → All (HasModule old) ms → AreOrdered (modules_of old ms)
    → AreOrdered (modules_of new ms)
still_ordered old new ms grown have ordered = subst AreOrdered (sym (modules_same grown ms have)) ordered

-- ---- goals

pub goal_owned : (names : List (List ℕ)) (owner : NameId) (result : Result GoalText StageFault) → AllDiffer names
    → slice_get names owner.0 ≡ Some goal_name → IfOk result (GoalIsOf owner names) → IfOk result (GoalIsOf (id_of names goal_name) names)
goal_owned names owner result differ at owned =
    subst (λ (id : NameId). IfOk result (GoalIsOf id names)) (sym (id_is names owner goal_name differ at)) owned

pub goal_is_read : (names : List (List ℕ)) (owner : NameId) (text bytes : List ℕ) (result : Result GoalText StageFault) → bytes ≡ text
    → slice_get names owner.0 ≡ Some goal_name → IfOk result (λ goal. GoalIsRead bytes (Ok (goal_meaning names goal)))
    → IfErr result (Tells names (IsUnread (text_of names owner) bytes)) → IsGoalRead names text result
goal_is_read names owner text bytes result same at read unread =
    subst (λ (t : List ℕ). IsGoalRead names t result) same
    (record {
      read = read;
      unread = subst (λ (name : List ℕ). IfErr result (Tells names (IsUnread name bytes))) (text_of-at names owner goal_name at) unread;
    })

-- ---- the root

place_by : (found : Bool) (count place : ℕ) (k : ℕ) → nat_lt place count ≡ found → cond found (Some place) None ≡ Some k
    → (place ≡ k) × (k < count)
place_by true count place k below is =
    let same : place ≡ k = cc in
    (same, subst (λ (n : ℕ). n < count) same (ltb-true place count below))
place_by false count place k below is = let absent : ⊥ = cc in absurd absent

pub root_at : (names : List (List ℕ)) (ms : List Module) (root : List ℕ) (id : NameId) (o : Option ℕ) (k : ℕ) → AllDiffer names
    → slice_get names id.0 ≡ Some root → All (HasModule names) ms → o ≡ position (called id) ms → o ≡ Some k
    → (root_in (modules_of names ms) root ≡ k) × (k < length ms)
root_at names ms root id o k differ at have is some =
    let place = position_or_len (called id) ms in
    let there = place_by (nat_lt place (length ms)) (length ms) place k refl (sym is ∙ some) in
    (sym (same_places names root id differ (id_is names id root differ at) ms have) ∙ there.0, there.1)

-- ---- what is found of the modules under the old table

pub both_refused : (old new : List (List ℕ)) (ms : List Module) (root text : List ℕ) (fault : StageFault) → Extends old new → All (HasModule old) ms
    → Tells new (RefusesModules (modules_of new ms) root) fault → Tells new (RefusesBoth (modules_of old ms) root text) fault
both_refused old new ms root text fault grown have told =
    tells_weaker new (RefusesModules (modules_of new ms) root) (RefusesBoth (modules_of old ms) root text) fault
    (λ refusal is held walk.
    let there = subst (λ (modules : List Named). Walk held root (Ok modules)) (sym (modules_same grown ms have)) walk in
    meant.RequestRefused.by_modules refusal (is held there)) told

pub same_refused : {A : Type 0} (old new last : List (List ℕ)) (ms : List Module) (root text : List ℕ) (result : Result A StageFault) → Extends old new
    → All (HasModule old) ms → IfErr result (Tells last (RefusesBoth (modules_of new ms) root text))
    → IfErr result (Tells last (RefusesBoth (modules_of old ms) root text))
same_refused old new last ms root text result grown have told =
    subst (λ (modules : List Named). IfErr result (Tells last (RefusesBoth modules root text))) (modules_same grown ms have) told

pub same_compiled : (old new last : List (List ℕ)) (ms : List Module) (root text : List ℕ) (result : Result Compiled StageFault) → Extends old new
    → All (HasModule old) ms
    → IfOk result (λ found. CompileBoth (modules_of new ms) root text last found.program (program_of found.flat))
    → IfOk result (λ found. CompileBoth (modules_of old ms) root text last found.program (program_of found.flat))
same_compiled old new last ms root text result grown have told =
    subst (λ (modules : List Named). IfOk result (λ found. CompileBoth modules root text last found.program (program_of found.flat)))
    (modules_same grown ms have) told

pub programs_at : (names : List (List ℕ)) (ms : List Module) (root text : List ℕ) (k : ℕ) (found : Programs) → root_in (modules_of names ms) root ≡ k
    → ArePrograms names (modules_of names ms) k text found → ArePrograms names (modules_of names ms) (root_in (modules_of names ms) root) text found
programs_at names ms root text k found is are = subst (λ (n : ℕ). ArePrograms names (modules_of names ms) n text found) (sym is) are
