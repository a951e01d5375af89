-- Refusals for faults of functions.
use Rattle.std.proofs.Common.{◌≡◌, ◌∙◌, ◌<◌, ℕ, Bool, true, false, List, Some, get_or, length, refl, slice_get, sym, ap, subst}
use Rattle.std.specs.List.{All}
use Rattle.cu_lex.specs.Located.{Position}
use Rattle.cu_lex.specs.Reading.{position_of}
use Rattle.cu_names.specs.declared.names.NameId.{NameId}
use Rattle.cu_names.specs.declared.place.Place.{Place}
use Rattle.cu_names.proofs.Growth.{known_at}
use Rattle.cu_names.specs.Texts.{AllDiffer, IsKnown, text_of}
use Rattle.cu_syntax.specs.Parsing as parsing
use Rattle.cu_syntax.specs.Syntax.{Goal}
use Rattle.cu_modules.specs.declared.modules.Module.{Module}
use Rattle.cu_modules.specs.Ordering.{modules_of}
use Rattle.cu_modules.specs.Reading.{HasModule}
use Rattle.cu_modules.specs.Scopes.{Named}
use Rattle.cu_modules.specs.Texts.{Syntax}
use Rattle.cu_modules.specs.Walk.{InText}
use Rattle.cu_translation.specs.Answer as answers
use Rattle.cu_translation.specs.Answer.{IsRefused, IsTooLong}
use Rattle.cu_translation.specs.declared.fault.DesugarFault.{DesugarFault}
use Rattle.cu_translation.specs.declared.fault.DesugarFault.TheVariants as desugar
use Rattle.cu_translation.specs.FaultOrder.{Arity, Fault, FixityClash, NonLinear, RecursiveLocal, SetName, TooLong, Wrong, fault}
use Rattle.cu_translation.specs.ModuleNames.{id_of, module_at}
use Rattle.cu_translation.specs.Translation.{Outcome, Refused}
use Rattle.cu_translation.specs.Functions.{goal_name}
use Rattle.cu_desugar.specs.Translated.{goal_translated, translated}
use Rattle.cu_toplevel.proofs.ReadingLemmas.{number_known}
use Rattle.cu_toplevel.proofs.TopLemmas.{id_is}
use Rattle.cu_front.specs.declared.fault.StageFault.{StageFault}
use Rattle.cu_front.specs.Inside.Outcomes.{fault_of_functions, is_clash}
use Rattle.cu_front.specs.Refusal.{InFunctions, Refusal, Walked, in_functions, in_functions_at}
use Rattle.cu_front.specs.Inside.StageFaults.{Tells}
use Rattle.cu_front.proofs.ClashLemmas as clashes
use Rattle.cu_front.proofs.TableLemmas.{module_at_is, module_has}

-- A text is refused for a fault of its functions, which this refusal tells.
pub record IsRefusedFor (owner : List ℕ) (clash : Bool) (result : Outcome) (refusal : Refusal) : Type 0 where
  pub fault : Fault
  pub refused : result ≡ Refused fault
  pub kind : clashes.is_clash fault.wrong ≡ clash
  pub told : in_functions owner fault ≡ refusal

at_place : (names : List (List ℕ)) (owner : NameId) (clash : Bool) (wrong : Wrong) (place : Place) (result : Outcome)
    → clashes.is_clash wrong ≡ clash
    → ((o : List ℕ) (at : Position) → in_functions_at o wrong at ≡ InFunctions o (fault wrong at))
    → IsKnown names owner → IsRefused owner wrong place result
    → IsRefusedFor (text_of names owner) clash result (InFunctions (text_of names place.«module») (fault wrong (position_of place)))
    × IsKnown names place.«module»
at_place names owner clash wrong place result kind plain known refused = (
  record {
    fault = fault wrong (position_of place);
    refused = refused.refused;
    kind = kind;
    told = plain (text_of names owner) (position_of place)
        ∙ ap (λ (o : NameId). InFunctions (text_of names o) (fault wrong (position_of place))) (sym refused.owned);
  },
  subst (IsKnown names) (sym refused.owned) known,
)

too_long : (names : List (List ℕ)) (owner : NameId) (line : ℕ) (result : Outcome) → IsKnown names owner → IsTooLong line result
    → IsRefusedFor (text_of names owner) false result (Walked (InText (text_of names owner) (Syntax (parsing.TooLong line))))
    × IsKnown names owner
too_long names owner line result known refused = (
  record {
    fault = fault TooLong refused.at;
    refused = refused.refused;
    kind = refl;
    told = ap (λ (n : ℕ). Walked (InText (text_of names owner) (Syntax (parsing.TooLong n)))) refused.on_line;
  },
  known,
)

-- what an answer tells
pub functions_told : (names : List (List ℕ)) (owner : NameId) (found : DesugarFault) (result : Outcome) → IsKnown names owner
    → answers.Tells owner found result
    → Tells names (IsRefusedFor (text_of names owner) (is_clash found) result) (fault_of_functions owner found)
functions_told names owner (desugar.FixityClash place) result known told =
    at_place names owner true FixityClash place result refl (λ o at. refl) known told
functions_told names owner (desugar.Arity place) result known told =
    at_place names owner false Arity place result refl (λ o at. refl) known told
functions_told names owner (desugar.NonLinear place) result known told =
    at_place names owner false NonLinear place result refl (λ o at. refl) known told
functions_told names owner (desugar.RecursiveLocal place) result known told =
    at_place names owner false RecursiveLocal place result refl (λ o at. refl) known told
functions_told names owner (desugar.SetName place) result known told =
    at_place names owner false SetName place result refl (λ o at. refl) known told
functions_told names owner (desugar.TooLong line) result known told = too_long names owner line result known told
functions_told names owner desugar.NoMemory result known told = tt

-- what an answer tells of the module of a number
pub module_told : (table : List (List ℕ)) (modules : List Named) (k : ℕ) (owner : NameId) (found : DesugarFault) (told : StageFault) → AllDiffer table
    → IsKnown table owner → (module_at modules k).name ≡ text_of table owner → told ≡ fault_of_functions owner found
    → answers.Tells (id_of table (module_at modules k).name) found (translated table modules k)
    → Tells table (IsRefusedFor (text_of table owner) (is_clash found) (translated table modules k)) told
module_told table modules k owner found told differ known named is tells =
    let result = translated table modules k in
    let same : id_of table (module_at modules k).name ≡ owner = ap (id_of table) named ∙ sym (number_known table owner differ known) in
    subst (Tells table (IsRefusedFor (text_of table owner) (is_clash found) result)) (sym is)
    (functions_told table owner found result known (subst (λ (o : NameId). answers.Tells o found result) same tells))

-- what an answer tells of a module, by its place
pub module_refused : (table : List (List ℕ)) (modules : List Module) (k : ℕ) (m : Module) (owner : NameId) (found : DesugarFault) (told : StageFault)
    → AllDiffer table → All (HasModule table) modules → k < length modules → m ≡ get_or modules k m → owner ≡ m.name
    → told ≡ fault_of_functions owner found
    → answers.Tells (id_of table (module_at (modules_of table modules) k).name) found (translated table (modules_of table modules) k)
    → Tells table (IsRefusedFor (module_at (modules_of table modules) k).name (is_clash found) (translated table (modules_of table modules) k)) told
module_refused table modules k m owner found told differ have below at owned is tells =
    let ms = modules_of table modules in
    let named : (module_at ms k).name ≡ text_of table m.name = ap (λ (n : Named). n.name) (module_at_is table modules k m below at) in
    subst (λ (o : List ℕ). Tells table (IsRefusedFor o (is_clash found) (translated table ms k)) told) (sym named)
    (module_told table ms k m.name found told differ (module_has table modules k m below at have).known named
    (is ∙ ap (λ (o : NameId). fault_of_functions o found) owned) tells)

-- what an answer tells of a goal
pub goal_told : (table : List (List ℕ)) (modules : List Named) (k : ℕ) (goal : Goal) (owner : NameId) (found : DesugarFault) (told : StageFault)
    → AllDiffer table → slice_get table owner.0 ≡ Some goal_name → told ≡ fault_of_functions owner found
    → answers.Tells (id_of table goal_name) found (goal_translated table modules k goal)
    → Tells table (IsRefusedFor (text_of table owner) (is_clash found) (goal_translated table modules k goal)) told
goal_told table modules k goal owner found told differ named is tells =
    let result = goal_translated table modules k goal in
    subst (Tells table (IsRefusedFor (text_of table owner) (is_clash found) result)) (sym is)
    (functions_told table owner found result (known_at table owner goal_name named)
    (subst (λ (o : NameId). answers.Tells o found result) (id_is table owner goal_name differ named) tells))
