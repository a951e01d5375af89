-- Modules that are translated one after another.
use Rattle.std.proofs.Common.{◌≡◌, ◌∙◌, ◌+◌, ◌-◌, ◌<◌, ◌≤◌, ◌++◌, ℕ, zero, suc, Bool, true, false, List, [], ◌∷◌, Option, None, Some, IfErr, IfOk, Result, arith, drop, flat_map, length, length-take-le, refl, sym, ap, ap₂, subst, take, take-append-drop, take-suc, take_all}
use Rattle.std.proofs.lemmas.List.{drop_more, length-append, length-map}
use Rattle.std.specs.Option.{option_or}
use Rattle.cu_kernel.specs.Kernel.{DataType, constructors_from, constructors_of}
use Rattle.cu_kernel.specs.LocalKernel.{Follows, LocalKernel, joined}
use Rattle.cu_modules.specs.Scopes.{Named}
use Rattle.cu_translation.specs.FaultOrder.{Fault}
use Rattle.cu_translation.specs.Faults.{group_clashes, group_faults}
use Rattle.cu_translation.specs.ModuleNames.{module_at, names_in, no_module}
use Rattle.cu_translation.specs.Numbered.{groups_in}
use Rattle.cu_translation.specs.Parts.{module_part}
use Rattle.cu_translation.specs.Translation.{Refused, Translated, outcome}
use Rattle.cu_desugar.specs.Translated.{translated}
use Rattle.cu_front.specs.declared.fault.StageFault.{StageFault}
use Rattle.cu_front.specs.declared.fault.StageFault.TheVariants as stage
use Rattle.cu_front.specs.declared.outcome.Outcome as code
use Rattle.cu_front.specs.declared.outcome.Outcome.TheVariants as found
use Rattle.cu_front.specs.declared.refusal.Refusal as refused
use Rattle.cu_front.specs.Inside.Outcomes.{Follow, HasNoClash, IsModuleOutcome, IsOutcome, IsOutcomeOf, followed_by, clash_told, clashes_told, kept, other_told, others_told, part_at, parts_of}
use Rattle.cu_front.specs.Refusal.{Refusal}
use Rattle.cu_front.specs.RefusalMeaning.{refusal_meaning}
use Rattle.cu_front.specs.Inside.StageFaults.{Tells}
use Rattle.cu_front.specs.Translated.{clash_in, fault_in, first_from, modules_program, program_upto, refused_or, translation_refusal}
use Rattle.cu_front.proofs.ClashLemmas.{Is, all_are_clashes, each, first_is, none_is_a_clash}
use Rattle.cu_front.proofs.ClashLemmas as clashes
use Rattle.cu_front.proofs.FunctionLemmas.{IsRefusedFor}
use Rattle.cu_front.proofs.RunLemmas.{tells_weaker}

-- ---- one module

clash_is : (table : List (List ℕ)) (modules : List Named) (k : ℕ) → Is true (clash_in table modules k)
clash_is table modules k =
    let names = names_in table modules k in
    let groups = groups_in (module_at modules k) in
    first_is true (flat_map (group_clashes names) groups) (each true (group_clashes names) (all_are_clashes names) groups)

other_is : (table : List (List ℕ)) (modules : List Named) (k : ℕ) → Is false (fault_in table modules k)
other_is table modules k =
    let names = names_in table modules k in
    let groups = groups_in (module_at modules k) in
    first_is false (flat_map (group_faults names) groups) (each false (group_faults names) (none_is_a_clash names) groups)

by_clash : (clash other : Option Fault) (part : LocalKernel) (f : Fault) → Is false other → outcome clash other part ≡ Refused f
    → clashes.is_clash f.wrong ≡ true → clash ≡ Some f
by_clash (Some c) other part f others is kind = let same : c ≡ f = cc in ap Some same
by_clash None (Some o) part f others is kind =
    let same : o ≡ f = cc in
    let no : true ≡ false = sym kind ∙ ap (λ (g : Fault). clashes.is_clash g.wrong) (sym same) ∙ others in
    let absent : ⊥ = cc in absurd absent
by_clash None None part f others is kind = let absent : ⊥ = cc in absurd absent

record IsOther (clash other : Option Fault) (f : Fault) : Type 0 where
  no_clash : clash ≡ None
  is : other ≡ Some f

by_other : (clash other : Option Fault) (part : LocalKernel) (f : Fault) → Is true clash → outcome clash other part ≡ Refused f
    → clashes.is_clash f.wrong ≡ false → IsOther clash other f
by_other (Some c) other part f all is kind =
    let same : c ≡ f = cc in
    let no : true ≡ false = sym all ∙ ap (λ (g : Fault). clashes.is_clash g.wrong) same ∙ kind in
    let absent : ⊥ = cc in absurd absent
by_other None (Some o) part f all is kind = let same : o ≡ f = cc in record { no_clash = refl; is = ap Some same }
by_other None None part f all is kind = let absent : ⊥ = cc in absurd absent

record IsRight (clash other : Option Fault) (part program : LocalKernel) : Type 0 where
  no_clash : clash ≡ None
  no_other : other ≡ None
  is : program ≡ part

by_part : (clash other : Option Fault) (part program : LocalKernel) → outcome clash other part ≡ Translated program
    → IsRight clash other part program
by_part (Some c) other part program is = let absent : ⊥ = cc in absurd absent
by_part None (Some o) part program is = let absent : ⊥ = cc in absurd absent
by_part None None part program is = let same : program ≡ part = cc in record { no_clash = refl; no_other = refl; is = same }

-- a part that is right
pub part_is : (table : List (List ℕ)) (modules : List Named) (k : ℕ) (program : LocalKernel) → translated table modules k ≡ Translated program
    → IsModuleOutcome table modules k (found.Program program)
unfolding translated clash_told other_told part_at
part_is table modules k program is =
    let owner = (module_at modules k).name in
    let right = by_part (clash_in table modules k) (fault_in table modules k) (module_part table modules k) program is in
    record {
      no_clash = ap (λ (o : Option Fault). refused_or owner o None) right.no_clash;
      is = (ap (λ (o : Option Fault). refused_or owner o None) right.no_other, right.is);
    }

-- a clash that is told
pub clash_is_told : (table : List (List ℕ)) (modules : List Named) (k : ℕ) (owner : List ℕ) (clash : Bool) (told : StageFault)
    → owner ≡ (module_at modules k).name → clash ≡ true
    → Tells table (IsRefusedFor owner clash (translated table modules k)) told
    → Tells table (λ refusal. clash_told table modules k ≡ Some refusal) told
unfolding translated clash_told
clash_is_told table modules k owner clash told named kind is =
    let name = (module_at modules k).name in
    tells_weaker table (IsRefusedFor owner clash (translated table modules k)) (λ refusal. clash_told table modules k ≡ Some refusal) told
    (λ refusal r.
    ap (λ (o : Option Fault). refused_or name o None)
    (by_clash (clash_in table modules k) (fault_in table modules k) (module_part table modules k) r.fault (other_is table modules k) r.refused (r.kind ∙ kind))
    ∙ ap (λ (o : List ℕ). refused_or o (Some r.fault) None) (sym named) ∙ ap Some r.told) is

-- another fault, which is told later
pub other_is_told : (table : List (List ℕ)) (modules : List Named) (k : ℕ) (owner : List ℕ) (clash : Bool) (told : StageFault)
    → owner ≡ (module_at modules k).name → clash ≡ false
    → Tells table (IsRefusedFor owner clash (translated table modules k)) told
    → IfOk (kept told) (IsModuleOutcome table modules k)
unfolding translated clash_told other_told
other_is_told table modules k owner clash (stage.Refused refusal) named kind is =
    let name = (module_at modules k).name in
    let r = is.0 in
    let other =
    by_other (clash_in table modules k) (fault_in table modules k) (module_part table modules k) r.fault (clash_is table modules k) r.refused (r.kind ∙ kind) in
    record {
      no_clash = ap (λ (o : Option Fault). refused_or name o None) other.no_clash;
      is = (
        ap (λ (o : Option Fault). refused_or name o None) other.is
            ∙ ap (λ (o : List ℕ). refused_or o (Some r.fault) None) (sym named) ∙ ap Some r.told,
        is.1,
      );
    }
other_is_told table modules k owner clash stage.NoMemory named kind is = tt

-- an allocation failure says nothing
pub kept_tells : (table : List (List ℕ)) (P : Refusal → Type 0) (told : StageFault) → IfErr (kept told) (Tells table P)
kept_tells table P (stage.Refused refusal) = tt
kept_tells table P stage.NoMemory = tt

pub no_memory_tells : {A : Type 0} (table : List (List ℕ)) (P : Refusal → Type 0) (result : Result A StageFault) (fault : StageFault)
    → fault ≡ stage.NoMemory → Tells table P fault
no_memory_tells table P result fault is = subst (Tells table P) (sym is) tt

-- ---- the first refusal

both_told : (owner : List ℕ) (f : Option Fault) (a b : Option Refusal) → refused_or owner f (option_or a b) ≡ option_or (refused_or owner f a) b
both_told owner None a b = refl
both_told owner (Some f) a b = refl

from_append : (found : ℕ → Option Fault) (k : ℕ) (xs ys : List Named)
    → first_from found k (xs ++ ys) ≡ option_or (first_from found k xs) (first_from found (k + length xs) ys)
from_append found k [] ys = let same : k ≡ k + 0 = omega arith in ap (λ (n : ℕ). first_from found n ys) same
from_append found k (x ∷ xs) ys =
    let same : k + 1 + length xs ≡ k + suc (length xs) = omega arith in
    ap (refused_or x.name (found k)) (from_append found (k + 1) xs ys)
    ∙ both_told x.name (found k) (first_from found (k + 1) xs) (first_from found (k + 1 + length xs) ys)
    ∙ ap (λ (n : ℕ). option_or (refused_or x.name (found k) (first_from found (k + 1) xs)) (first_from found n ys)) same

-- the first fault in so many modules and one more
one_more : (found : ℕ → Option Fault) (modules : List Named) (n : ℕ) → n < length modules
    → first_from found 0 (take (suc n) modules)
    ≡ option_or (first_from found 0 (take n modules)) (refused_or (module_at modules n).name (found n) None)
one_more found modules n below =
    let m = module_at modules n in
    let size : length (take n modules) ≡ n = length-take-le n modules (omega (arith, below)) in
    let at : 0 + length (take n modules) ≡ n = omega (arith, size) in
    ap (first_from found 0) (take-suc modules n no_module below)
    ∙ from_append found 0 (take n modules) (m ∷ [])
    ∙ ap (λ (k : ℕ). option_or (first_from found 0 (take n modules)) (refused_or m.name (found k) None)) at

told_alone : (owner : List ℕ) (f : Option Fault) (others : Option Refusal) (r : Refusal) → refused_or owner f None ≡ Some r
    → refused_or owner f others ≡ Some r
told_alone owner None others r is = let absent : ⊥ = cc in absurd absent
told_alone owner (Some f) others r is = is

-- the first module that is refused
at_first : (found : ℕ → Option Fault) (modules : List Named) (n : ℕ) (r : Refusal) → n < length modules
    → first_from found 0 (take n modules) ≡ None → refused_or (module_at modules n).name (found n) None ≡ Some r
    → first_from found 0 modules ≡ Some r
at_first found modules n r below none is =
    let m = module_at modules n in
    let later = drop (n + 1) modules in
    let size : length (take n modules) ≡ n = length-take-le n modules (omega (arith, below)) in
    let at : 0 + length (take n modules) ≡ n = omega (arith, size) in
    ap (first_from found 0) (sym (take-append-drop n modules))
    ∙ from_append found 0 (take n modules) (drop n modules)
    ∙ ap (λ (o : Option Refusal). option_or o (first_from found (0 + length (take n modules)) (drop n modules))) none
    ∙ ap (λ (k : ℕ). first_from found k (drop n modules)) at
    ∙ ap (first_from found n) (drop_more modules n no_module below)
    ∙ told_alone m.name (found n) (first_from found (n + 1) later) r is

-- a clash in the next module is the first
pub first_clash : (table : List (List ℕ)) (modules : List Named) (n : ℕ) → n < length modules → clashes_told table modules n ≡ None
    → (told : StageFault) → Tells table (λ refusal. clash_told table modules n ≡ Some refusal) told
    → Tells table (λ refusal. translation_refusal table modules ≡ Some refusal) told
unfolding clash_told clashes_told translation_refusal
first_clash table modules n below none told is =
    tells_weaker table (λ refusal. clash_told table modules n ≡ Some refusal) (λ refusal. translation_refusal table modules ≡ Some refusal) told
    (λ refusal e.
    ap (λ (o : Option Refusal). option_or o (first_from (fault_in table modules) 0 modules))
    (at_first (clash_in table modules) modules n refusal below none e)) is

pub none_before : (table : List (List ℕ)) (modules : List Named) → clashes_told table modules 0 ≡ None
unfolding clashes_told
none_before table modules = refl

-- ---- modules in a row

pub is_after : (names : List (List ℕ)) (first second : Option Refusal) (before part : LocalKernel) (so_far next : code.Outcome)
    → IsOutcome names first before so_far → IsOutcome names second part next
    → IsOutcome names (option_or first second) (joined before part) (followed_by so_far next)
is_after names first second before part (found.Program p) (found.Program q) is then = (
  ap₂ option_or is.0 then.0,
  ap₂ joined is.1 then.1,
)
is_after names first second before part (found.Program p) (found.Refused r) is then =
    (ap (λ (o : Option Refusal). option_or o second) is.0 ∙ then.0, then.1)
is_after names first second before part (found.Refused r) next is then =
    (ap (λ (o : Option Refusal). option_or o second) is.0, is.1)

has_none : (names : List (List ℕ)) (clash clash' other other' : Option Refusal) (before part : LocalKernel) (so_far next : code.Outcome)
    → HasNoClash names clash other before so_far → HasNoClash names clash' other' part next
    → HasNoClash names (option_or clash clash') (option_or other other') (joined before part) (followed_by so_far next)
has_none names clash clash' other other' before part so_far next first second = record {
  no_clash = ap₂ option_or first.no_clash second.no_clash;
  is = is_after names other other' before part so_far next first.is second.is;
}

-- the first module
pub of_first : (table : List (List ℕ)) (modules : List Named) (outcome : code.Outcome) → 0 < length modules
    → IsModuleOutcome table modules 0 outcome → IsOutcomeOf table modules 1 outcome
unfolding clash_told other_told part_at clashes_told others_told parts_of
of_first table modules outcome some is =
    let clash = one_more (clash_in table modules) modules 0 some in
    let other = one_more (fault_in table modules) modules 0 some in
    record {
      no_clash = clash ∙ is.no_clash;
      is = subst (λ (o : Option Refusal). IsOutcome table o (module_part table modules 0) outcome) (sym other) is.is;
    }

after_first : (table : List (List ℕ)) (modules : List Named) (k : ℕ) (so_far next : code.Outcome) → suc k < length modules
    → IsOutcomeOf table modules (suc k) so_far → IsModuleOutcome table modules (suc k) next
    → IsOutcomeOf table modules (suc (suc k)) (followed_by so_far next)
unfolding clash_told other_told part_at clashes_told others_told parts_of
after_first table modules k so_far next below first second =
    let n = suc k in
    let before = program_upto table modules k in
    let part = module_part table modules n in
    let clash = one_more (clash_in table modules) modules n below in
    let other = one_more (fault_in table modules) modules n below in
    let both =
    has_none table (first_from (clash_in table modules) 0 (take n modules)) (refused_or (module_at modules n).name (clash_in table modules n) None)
    (first_from (fault_in table modules) 0 (take n modules)) (refused_or (module_at modules n).name (fault_in table modules n) None) before part
    so_far next first second in
    record {
      no_clash = clash ∙ both.no_clash;
      is = subst (λ (o : Option Refusal). IsOutcome table o (joined before part) (followed_by so_far next)) (sym other) both.is;
    }

-- one module more
pub of_next : (table : List (List ℕ)) (modules : List Named) (n : ℕ) (so_far next after : code.Outcome) → 1 ≤ n → n < length modules
    → after ≡ followed_by so_far next → IsOutcomeOf table modules n so_far → IsModuleOutcome table modules n next
    → IsOutcomeOf table modules (n + 1) after
of_next table modules zero so_far next after some below is first second = absurd (omega (arith, some))
of_next table modules (suc k) so_far next after some below is first second =
    let more : suc (suc k) ≡ suc k + 1 = omega arith in
    subst (λ (m : ℕ). IsOutcomeOf table modules m after) more
    (subst (IsOutcomeOf table modules (suc (suc k))) (sym is) (after_first table modules k so_far next below first second))

-- ---- numbers that follow

abbrev pub ModulesFollow : Type 0
ModulesFollow = (table : List (List ℕ)) (modules : List Named) (k : ℕ) → k < length modules
    → Follows (module_part table modules k) (module_part table modules (suc k))

-- how many constructors there are, wherever the types stand
counted : (m n : ℕ) (ts : List DataType) → length (constructors_from m ts) ≡ length (constructors_from n ts)
counted m n [] = refl
counted m n (t ∷ ts) =
    let here_m = length-map t.constructors (λ c. record { of_type = m; arity = length c.fields }) in
    let here_n = length-map t.constructors (λ c. record { of_type = n; arity = length c.fields }) in
    length-append (constructors_of m t.constructors) (constructors_from (m + 1) ts)
    ∙ ap (λ (k : ℕ). k + length (constructors_from (m + 1) ts)) (here_m ∙ sym here_n)
    ∙ ap (λ (k : ℕ). length (constructors_of n t.constructors) + k) (counted (m + 1) (n + 1) ts)
    ∙ sym (length-append (constructors_of n t.constructors) (constructors_from (n + 1) ts))

joined_count : (n : ℕ) (xs ys : List DataType)
    → length (constructors_from n (xs ++ ys)) ≡ length (constructors_from n xs) + length (constructors_from 0 ys)
joined_count n [] ys = let same = counted n 0 ys in omega (arith, same)
joined_count n (x ∷ xs) ys =
    let whole = length-append (constructors_of n x.constructors) (constructors_from (n + 1) (xs ++ ys)) in
    let prefix = length-append (constructors_of n x.constructors) (constructors_from (n + 1) xs) in
    let inner = joined_count (n + 1) xs ys in
    omega (arith, whole, prefix, inner)

further : (start more last next : ℕ) → next ≡ start + more → (n : ℕ) → n ≡ next + last → n ≡ start + (more + last)
further start more last next is n then = omega (arith, is, then)

-- what follows the last part follows the whole
follows_both : (whole part next : LocalKernel) → Follows whole part → Follows part next → Follows (joined whole part) next
follows_both whole part next first second = record {
  types = further whole.start.types (length whole.types) (length part.types) part.start.types first.types next.start.types second.types
      ∙ ap (λ (k : ℕ). whole.start.types + k) (sym (length-append whole.types part.types));
  constructors = further whole.start.constructors (length (constructors_from 0 whole.types)) (length (constructors_from 0 part.types))
      part.start.constructors first.constructors next.start.constructors second.constructors
      ∙ ap (λ (k : ℕ). whole.start.constructors + k) (sym (joined_count 0 whole.types part.types));
  functions = further whole.start.functions (length whole.functions) (length part.functions) part.start.functions first.functions
      next.start.functions second.functions
      ∙ ap (λ (k : ℕ). whole.start.functions + k) (sym (length-append whole.functions part.functions));
  synonyms = further whole.start.synonyms (length whole.synonyms) (length part.synonyms) part.start.synonyms first.synonyms
      next.start.synonyms second.synonyms
      ∙ ap (λ (k : ℕ). whole.start.synonyms + k) (sym (length-append whole.synonyms part.synonyms));
  modules = further whole.start.modules (length whole.modules) (length part.modules) part.start.modules first.modules
      next.start.modules second.modules
      ∙ ap (λ (k : ℕ). whole.start.modules + k) (sym (length-append whole.modules part.modules));
}

pub upto_follows : ModulesFollow → (table : List (List ℕ)) (modules : List Named) (k : ℕ) → k < length modules → (next : LocalKernel)
    → Follows (module_part table modules k) next → Follows (program_upto table modules k) next
upto_follows follow table modules zero below next is = is
upto_follows follow table modules (suc k) below next is =
    let within : k < length modules = omega (arith, below) in
    follows_both (program_upto table modules k) (module_part table modules (suc k)) next
    (upto_follows follow table modules k within (module_part table modules (suc k)) (follow table modules k within)) is

pub follow_by : (names : List (List ℕ)) (first second : Option Refusal) (before part : LocalKernel) (so_far next : code.Outcome)
    → Follows before part → IsOutcome names first before so_far → IsOutcome names second part next → Follow so_far next
follow_by names first second before part (found.Program p) (found.Program q) follows is then =
    subst (λ (x : LocalKernel). Follows x q) (sym is.1) (subst (Follows before) (sym then.1) follows)
follow_by names first second before part (found.Program p) (found.Refused r) follows is then = tt
follow_by names first second before part (found.Refused r) (found.Program q) follows is then = tt
follow_by names first second before part (found.Refused r) (found.Refused s) follows is then = tt

-- the next module follows those before it
pub next_follows : ModulesFollow → (table : List (List ℕ)) (modules : List Named) (n : ℕ) (so_far next : code.Outcome) → 1 ≤ n → n < length modules
    → IsOutcomeOf table modules n so_far → IsModuleOutcome table modules n next → Follow so_far next
unfolding part_at parts_of
next_follows follow table modules zero so_far next some below is then = absurd (omega (arith, some))
next_follows follow table modules (suc k) so_far next some below is then =
    let within : k < length modules = omega (arith, below) in
    follow_by table (others_told table modules (suc k)) (other_told table modules (suc k)) (program_upto table modules k)
    (module_part table modules (suc k)) so_far next
    (upto_follows follow table modules k within (module_part table modules (suc k)) (follow table modules k within)) is.is then.is

-- ---- all modules

none_told : (table : List (List ℕ)) (modules : List Named) (n : ℕ) (other : Option Refusal) → n ≡ length modules → clashes_told table modules n ≡ None
    → others_told table modules n ≡ other → translation_refusal table modules ≡ other
unfolding clashes_told others_told translation_refusal
none_told table modules n other all clash told =
    let whole : take n modules ≡ modules = take_all n modules (omega (arith, all)) in
    ap₂ option_or (ap (first_from (clash_in table modules) 0) (sym whole) ∙ clash) (ap (first_from (fault_in table modules) 0) (sym whole) ∙ told)

all_parts : (table : List (List ℕ)) (modules : List Named) (n : ℕ) → 1 ≤ n → n ≡ length modules → parts_of table modules n ≡ modules_program table modules
unfolding parts_of modules_program
all_parts table modules zero some all = absurd (omega (arith, some))
all_parts table modules (suc k) some all = let last : k ≡ length modules - 1 = omega (arith, all) in ap (program_upto table modules) last

pub all_right : (table : List (List ℕ)) (modules : List Named) (n : ℕ) (program : LocalKernel) → 1 ≤ n → n ≡ length modules
    → IsOutcomeOf table modules n (found.Program program)
    → (translation_refusal table modules ≡ None) × (program ≡ modules_program table modules)
all_right table modules n program some all is =
    (none_told table modules n None all is.no_clash is.is.0, is.is.1 ∙ all_parts table modules n some all)

pub all_refused : (table : List (List ℕ)) (modules : List Named) (n : ℕ) (outcome : code.Outcome) (refusal : refused.Refusal) → n ≡ length modules
    → outcome ≡ found.Refused refusal → IsOutcomeOf table modules n outcome
    → Tells table (λ refusal. translation_refusal table modules ≡ Some refusal) (stage.Refused refusal)
all_refused table modules n outcome refusal all same is =
    let told = subst (IsOutcome table (others_told table modules n) (parts_of table modules n)) same is.is in
    (none_told table modules n (Some (refusal_meaning table refusal)) all is.no_clash told.0, told.1)
