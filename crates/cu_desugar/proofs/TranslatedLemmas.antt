-- What modules and goals are translated to.
use Rattle.std.proofs.Common.{◌≡◌, ℕ, IfOk, List, Option, None, Result, Some, map, refl, subst, sym}
use Rattle.std.specs.List.{flat_map}
use Rattle.cu_faults.specs.Telling.{FaultIsOf}
use Rattle.cu_kernel.specs.LocalKernel.{LocalKernel, TopFunction}
use Rattle.cu_modules.specs.Scopes.{Named}
use Rattle.cu_names.specs.declared.names.NameId.{NameId}
use Rattle.cu_syntax.specs.Syntax.{Goal}
use Rattle.cu_translation.specs.declared.fault.Fault as code
use Rattle.cu_translation.specs.Answer.{fault_meaning}
use Rattle.cu_translation.specs.Around.{Names}
use Rattle.cu_translation.specs.Faults.{goal_clashes, goal_faults, group_clashes, group_faults}
use Rattle.cu_translation.specs.Functions.{top_function}
use Rattle.cu_translation.specs.ModuleTypes.{Reading}
use Rattle.cu_translation.specs.Numbered.{groups_in}
use Rattle.cu_translation.specs.Parts.{goal_names, goal_part, part_of, reading}
use Rattle.cu_translation.specs.Rules.{Group}
use Rattle.cu_translation.specs.Translation.{Outcome, Refused, Translated, goal_translation, translation}
use Rattle.cu_desugar.specs.declared.outcomes.Outcome as parts
use Rattle.cu_desugar.specs.Inside.Outcomes.{IsOutcome, reading_translated}
use Rattle.cu_desugar.specs.Inside.Refusals.{IsRefusal}
use Rattle.cu_desugar.specs.Translated.{goal_translated, translated}
use Rattle.cu_desugar.proofs.RefusalLemmas as outcomes

-- ---- by the definitions of translation

pub translated_is : (table : List (List ℕ)) (modules : List Named) (number : ℕ) → translated table modules number ≡ translation table modules number
unfolding translated
translated_is table modules number = refl

pub goal_translated_is : (table : List (List ℕ)) (modules : List Named) (root : ℕ) (goal : Goal) → goal_translated table modules root goal ≡ goal_translation table modules root goal
unfolding goal_translated
goal_translated_is table modules root goal = refl

-- ---- modules

pub by_reading : (table : List (List ℕ)) (modules : List Named) (number : ℕ) → reading_translated modules (reading table modules number) ≡ translated table modules number
unfolding translated reading_translated
by_reading table modules number = refl

pub at_reading : {E : Type 0} (owner : NameId) (table : List (List ℕ)) (modules : List Named) (number : ℕ) (r : Result parts.Outcome E)
    → IfOk r (IsOutcome owner (reading_translated modules (reading table modules number))) → IfOk r (IsOutcome owner (translated table modules number))
at_reading owner table modules number r is =
    subst (λ (o : Outcome). IfOk r (IsOutcome owner o)) (by_reading table modules number) is

pub module_refused : (owner : NameId) (modules : List Named) (r : Reading) (found : Option code.Fault) (f : code.Fault) → found ≡ Some f
    → IsRefusal owner (flat_map (group_clashes r.names) (groups_in r.m)) (flat_map (group_faults r.names) (groups_in r.m)) found
    → (reading_translated modules r ≡ Refused (fault_meaning f)) × FaultIsOf owner f
unfolding reading_translated
module_refused owner modules r found f is refusal =
    outcomes.refused owner (flat_map (group_clashes r.names) (groups_in r.m)) (flat_map (group_faults r.names) (groups_in r.m)) found f (part_of modules r) is refusal

pub module_translated : (owner : NameId) (modules : List Named) (r : Reading) (found : Option code.Fault) (made : LocalKernel) → found ≡ None
    → IsRefusal owner (flat_map (group_clashes r.names) (groups_in r.m)) (flat_map (group_faults r.names) (groups_in r.m)) found
    → made ≡ part_of modules r → reading_translated modules r ≡ Translated made
unfolding reading_translated
module_translated owner modules r found made is refusal same =
    outcomes.translated owner (flat_map (group_clashes r.names) (groups_in r.m)) (flat_map (group_faults r.names) (groups_in r.m)) found (part_of modules r) made is refusal same

-- the functions of a module, under the table of names of its reading
pub under_its_table : (names table : List (List ℕ)) (top : Names) (groups : List Group) (found : List TopFunction) → table ≡ names → found ≡ map (top_function names top) groups
    → found ≡ map (top_function table top) groups
under_its_table names table top groups found is same = subst (λ (t : List (List ℕ)). found ≡ map (top_function t top) groups) (sym is) same

-- ---- goals

pub goal_refused : (owner : NameId) (table : List (List ℕ)) (modules : List Named) (root : ℕ) (goal : Goal) (found : Option code.Fault) (f : code.Fault) → found ≡ Some f
    → IsRefusal owner (goal_clashes (goal_names table modules root) goal) (goal_faults (goal_names table modules root) goal) found
    → (goal_translated table modules root goal ≡ Refused (fault_meaning f)) × FaultIsOf owner f
unfolding goal_translated
goal_refused owner table modules root goal found f is refusal =
    outcomes.refused owner (goal_clashes (goal_names table modules root) goal) (goal_faults (goal_names table modules root) goal) found f (goal_part table modules root goal) is refusal

pub goal_is_translated : (owner : NameId) (table : List (List ℕ)) (modules : List Named) (root : ℕ) (goal : Goal) (found : Option code.Fault) (made : LocalKernel) → found ≡ None
    → IsRefusal owner (goal_clashes (goal_names table modules root) goal) (goal_faults (goal_names table modules root) goal) found
    → made ≡ goal_part table modules root goal → goal_translated table modules root goal ≡ Translated made
unfolding goal_translated
goal_is_translated owner table modules root goal found made is refusal same =
    outcomes.translated owner (goal_clashes (goal_names table modules root) goal) (goal_faults (goal_names table modules root) goal) found (goal_part table modules root goal) made is refusal same
