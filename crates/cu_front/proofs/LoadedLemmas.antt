-- Modules that are loaded, under tables that grow, and the goals that are asked of them.
use Rattle.std.proofs.Common.{◌≡◌, ◌∙◌, ℕ, List, [], IfErr, IfOk, Ok, Err, Result, Some, inl, inr, sym, ap, subst}
use Rattle.std.specs.List.{All}
use Rattle.cu_calculus.specs.FlatProgram.{program_of}
use Rattle.cu_declared.specs.TypeFaults.{AreRight}
use Rattle.cu_names.specs.Texts.{Extends}
use Rattle.cu_modules.proofs.InternLemmas.{built_in_kept}
use Rattle.cu_modules.proofs.MeaningLemmas.{all_have, modules_same}
use Rattle.cu_modules.specs.declared.modules.Module.{Module}
use Rattle.cu_modules.specs.Means.{AreScoped}
use Rattle.cu_modules.specs.Ordering.{modules_of}
use Rattle.cu_modules.specs.Reading.{HasModule}
use Rattle.cu_modules.specs.Scopes.{Named}
use Rattle.cu_modules.specs.Walk.{Walk}
use Rattle.cu_front.specs.AskAnswers.{AskIsKnown, AskTells}
use Rattle.cu_front.specs.Compiling as meant
use Rattle.cu_front.specs.Compiling.{AreCompiled, Compiles, Folder, GoalCompiles, GoalRefused, RequestRefused, root_in}
use Rattle.cu_front.specs.declared.fault.StageFault.{StageFault}
use Rattle.cu_front.specs.declared.fault.StageFault.TheVariants as stage
use Rattle.cu_front.specs.declared.asking.AskFault.{AskFault}
use Rattle.cu_front.specs.declared.loaded.Loaded.{Loaded}
use Rattle.cu_front.specs.declared.outcome.Outcome.{Outcome}
use Rattle.cu_front.specs.declared.runnable.Compiled.{Compiled}
use Rattle.cu_front.specs.Inside.Questions.{RefusesQuestion, ask_fault_of}
use Rattle.cu_front.specs.Inside.Stages.{CompileAlone, RefusesModules}
use Rattle.cu_front.specs.Inside.StageFaults.{Tells}
use Rattle.cu_front.specs.Loaded.{AreLoaded, IsLoaded}
use Rattle.cu_front.specs.Names.{IsTable}
use Rattle.cu_front.specs.Refusal.{Refusal}
use Rattle.cu_front.specs.Translated.{translation_refusal}
use Rattle.cu_front.proofs.ReadLemmas.{still_ordered}
use Rattle.cu_front.proofs.RunLemmas.{tells_weaker}
use Rattle.cu_front.proofs.StageLemmas.{modules_refused}

-- ---- tables that grow

pub still_loaded : (old new : List (List ℕ)) (loaded : Loaded) → Extends old new → IsLoaded old loaded → IsLoaded new loaded
still_loaded old new loaded grown is = record {
  built_in = built_in_kept old new grown is.built_in;
  known = all_have grown loaded.modules.items is.known;
  ordered = still_ordered old new loaded.modules.items grown is.known is.ordered;
  root = is.root;
}

pub are_still_loaded : (held : Folder) (root : List ℕ) (old new : List (List ℕ)) (loaded : Loaded) → Extends old new → IsLoaded old loaded
    → AreLoaded held root old loaded → AreLoaded held root new loaded
are_still_loaded held root old new loaded grown is are =
    let same = sym (modules_same grown loaded.modules.items is.known) in
    record {
      compiled = subst (AreCompiled held root) same are.compiled;
      number = subst (λ (ms : List Named). root_in ms root ≡ loaded.root) same are.number;
    }

-- ---- modules that are tested

-- modules whose program can be run
pub alone_are_compiled : (held : Folder) (root : List ℕ) (modules : List Named) (names : List (List ℕ)) (result : Result Compiled StageFault)
    (found : Compiled) → result ≡ Ok found
    → IfOk result (λ c. CompileAlone modules root names c.program c.interface (program_of c.flat)) → Walk held root (Ok modules)
    → AreCompiled held root modules
alone_are_compiled held root modules names result found is alone walk =
    let are : CompileAlone modules root names found.program found.interface (program_of found.flat) =
    subst (λ (r : Result Compiled StageFault). IfOk r (λ c. CompileAlone modules root names c.program c.interface (program_of c.flat))) is alone in
    record {
      names = names;
      program = found.program;
      interface = found.interface;
      flat = program_of found.flat;
      compile = are held walk;
    }

pub loaded_as : (held : Folder) (root : List ℕ) (old new : List (List ℕ)) (slice : List Module) (loaded : Loaded) → slice ≡ loaded.modules.items
    → Extends old new → All (HasModule old) loaded.modules.items
    → ((folder : Folder) → Walk folder root (Ok (modules_of old slice)) → AreCompiled folder root (modules_of old slice))
    → root_in (modules_of old slice) root ≡ loaded.root → Walk held root (Ok (modules_of old loaded.modules.items))
    → AreLoaded held root new loaded
loaded_as held root old new slice loaded same grown known compiled number walk =
    let there = ap (λ (ms : List Module). modules_of old ms) same ∙ sym (modules_same grown loaded.modules.items known) in
    record {
      compiled = subst (AreCompiled held root) there
          (compiled held (subst (λ (ms : List Module). Walk held root (Ok (modules_of old ms))) (sym same) walk));
      number = subst (λ (ms : List Named). root_in ms root ≡ loaded.root) there number;
    }

-- ---- goals

-- the first refusal of the translation of modules
pub whole_refused : (names : List (List ℕ)) (modules : List Named) (root : List ℕ) (result : Result Outcome StageFault) → AreScoped [] modules
    → AreRight modules → IsTable modules names
    → IfErr result (Tells names (λ refusal. translation_refusal names modules ≡ Some refusal))
    → IfErr result (Tells names (RefusesModules modules root))
whole_refused names modules root (Ok whole) scoped types table told = tt
whole_refused names modules root (Err fault) scoped types table told = modules_refused names modules root fault scoped types table told

-- what modules are called under the table that grew
renamed : (old new : List (List ℕ)) (slice : List Module) (loaded : Loaded) → slice ≡ loaded.modules.items → Extends old new → IsLoaded old loaded
    → modules_of new slice ≡ modules_of old loaded.modules.items
renamed old new slice loaded same grown is = ap (λ (ms : List Module). modules_of new ms) same ∙ modules_same grown loaded.modules.items is.known

-- a refusal of the modules that holds of each root
of_modules : (names : List (List ℕ)) (modules : List Named) (k : ℕ) (text : List ℕ) (fault : StageFault)
    → ((root : List ℕ) → Tells names (RefusesModules modules root) fault) → Tells names (RefusesQuestion modules k text) fault
of_modules names modules k text (stage.Refused refusal) told = (inr (λ root. (told root).0), (told []).1)
of_modules names modules k text stage.NoMemory told = tt

pub modules_not_whole : (old new : List (List ℕ)) (slice : List Module) (loaded : Loaded) (text : List ℕ) (fault : StageFault)
    → slice ≡ loaded.modules.items → Extends old new → IsLoaded old loaded
    → ((root : List ℕ) → Tells new (RefusesModules (modules_of new slice) root) fault)
    → Tells new (RefusesQuestion (modules_of old loaded.modules.items) loaded.root text) fault
modules_not_whole old new slice loaded text fault same grown is told =
    subst (λ (ms : List Named). Tells new (RefusesQuestion ms loaded.root text) fault) (renamed old new slice loaded same grown is)
    (of_modules new (modules_of new slice) loaded.root text fault told)

-- a refusal of the goal
of_goal : (names : List (List ℕ)) (modules : List Named) (k : ℕ) (text : List ℕ) (result : Result Compiled StageFault)
    → IfErr result (Tells names (GoalRefused modules k text)) → IfErr result (Tells names (RefusesQuestion modules k text))
of_goal names modules k text (Ok found) told = tt
of_goal names modules k text (Err fault) told =
    tells_weaker names (GoalRefused modules k text) (RefusesQuestion modules k text) fault (λ refusal r. inl r) told

pub question_not_run : (old new last : List (List ℕ)) (slice : List Module) (loaded : Loaded) (text : List ℕ) (result : Result Compiled StageFault)
    → slice ≡ loaded.modules.items → Extends old new → IsLoaded old loaded
    → IfErr result (Tells last (GoalRefused (modules_of new slice) loaded.root text))
    → IfErr result (Tells last (RefusesQuestion (modules_of old loaded.modules.items) loaded.root text))
question_not_run old new last slice loaded text result same grown is told =
    subst (λ (ms : List Named). IfErr result (Tells last (RefusesQuestion ms loaded.root text))) (renamed old new slice loaded same grown is)
    (of_goal last (modules_of new slice) loaded.root text result told)

pub question_runs : (old new last : List (List ℕ)) (slice : List Module) (loaded : Loaded) (text : List ℕ) (result : Result Compiled StageFault)
    → slice ≡ loaded.modules.items → Extends old new → IsLoaded old loaded
    → IfOk result (λ found. GoalCompiles (modules_of new slice) loaded.root text last found.program (program_of found.flat))
    → IfOk result (λ found. GoalCompiles (modules_of old loaded.modules.items) loaded.root text last found.program (program_of found.flat))
question_runs old new last slice loaded text result same grown is compiles =
    subst (λ (ms : List Named). IfOk result (λ found. GoalCompiles ms loaded.root text last found.program (program_of found.flat)))
    (renamed old new slice loaded same grown is) compiles

-- ---- what is asked

refused_by : (held : Folder) (root text : List ℕ) (modules : List Named) (k : ℕ) (refusal : Refusal) → AreCompiled held root modules
    → root_in modules root ≡ k → RefusesQuestion modules k text refusal → RequestRefused held root text refusal
refused_by held root text modules k refusal compiled number (inl r) =
    meant.RequestRefused.by_goal modules refusal compiled
    (subst (λ (n : ℕ). GoalRefused modules n text refusal) (sym number) r)
refused_by held root text modules k refusal compiled number (inr r) =
    meant.RequestRefused.by_modules refusal (r root held compiled.compile.walked)

pub question_compiles : (held : Folder) (root text : List ℕ) (old names : List (List ℕ)) (loaded : Loaded) (found : Compiled)
    → AreLoaded held root old loaded
    → GoalCompiles (modules_of old loaded.modules.items) loaded.root text names found.program (program_of found.flat)
    → Compiles held root text names found.program (program_of found.flat)
question_compiles held root text old names loaded found are is =
    let ms = modules_of old loaded.modules.items in
    record {
      modules = ms;
      are_modules = are.compiled;
      is_goal = subst (λ (n : ℕ). GoalCompiles ms n text names found.program (program_of found.flat)) (sym are.number) is;
    }

asked_by : (names : List (List ℕ)) (P Q : Refusal → Type 0) (fault : StageFault) → ((refusal : Refusal) → P refusal → Q refusal)
    → Tells names P fault → AskTells names Q (ask_fault_of fault)
asked_by names P Q (stage.Refused refusal) weaker told = weaker _ told.0
asked_by names P Q stage.NoMemory weaker told = tt

pub question_refused : (held : Folder) (root text : List ℕ) (old names : List (List ℕ)) (loaded : Loaded) (fault : StageFault) (result : AskFault)
    → result ≡ ask_fault_of fault → AreLoaded held root old loaded
    → Tells names (RefusesQuestion (modules_of old loaded.modules.items) loaded.root text) fault
    → AskTells names (RequestRefused held root text) result
question_refused held root text old names loaded fault result is are told =
    let ms = modules_of old loaded.modules.items in
    subst (AskTells names (RequestRefused held root text)) (sym is)
    (asked_by names (RefusesQuestion ms loaded.root text) (RequestRefused held root text) fault
    (λ refusal r. refused_by held root text ms loaded.root refusal are.compiled are.number r) told)

known_by : (names : List (List ℕ)) (P : Refusal → Type 0) (fault : StageFault) → Tells names P fault → AskIsKnown names (ask_fault_of fault)
known_by names P (stage.Refused refusal) told = told.1
known_by names P stage.NoMemory told = tt

pub question_known : (names : List (List ℕ)) (P : Refusal → Type 0) (fault : StageFault) (result : AskFault) → result ≡ ask_fault_of fault
    → Tells names P fault → AskIsKnown names result
question_known names P fault result is told = subst (AskIsKnown names) (sym is) (known_by names P fault told)
