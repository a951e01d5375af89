-- What a visit does.
use Rattle.std.proofs.Common.{◌≡◌, ◌∙◌, ◌+◌, ◌-◌, ◌*◌, ◌<◌, ◌≤◌, inl, inr, ℕ, Bool, true, false, List, [], ◌∷◌, ◌++◌, take, Option, Ok, Err, Result, sym, ap, subst, arith, length}
use Rattle.std.proofs.Math.Seq.{take-append_seam}
use Rattle.std.proofs.lemmas.List.{length-append}
use Rattle.std.specs.List.{All}
use Rattle.std.specs.Prelude.{IfErr, IfSome, IsErrAnd}
use Rattle.cu_io.specs.Holdings.{Holdings}
use Rattle.cu_names.specs.declared.names.NameId.{NameId}
use Rattle.cu_names.specs.Texts.{AllDiffer, Extends, IsKnown, text_of}
use Rattle.cu_modules.specs.declared.fault.OrderFault.{OrderFault}
use Rattle.cu_modules.specs.declared.modules.Module.{Module}
use Rattle.cu_modules.specs.declared.visits.Progress.{Progress}
use Rattle.cu_uses.specs.Binders.{is_among}
use Rattle.cu_modules.specs.Ordering.{Tells, modules_of, texts_of}
use Rattle.cu_modules.specs.BuiltInEntities.{prelude_name, set_functions_name}
use Rattle.cu_modules.specs.Inside.Progress as found
use Rattle.cu_modules.specs.Inside.Progress.{Enters, IsCycle, IsFree, IsLacking, Stands, built_in_met, is_met, one_if}
use Rattle.cu_modules.specs.Scopes.{Named}
use Rattle.cu_modules.specs.Walk.{IsNew, IsOpen, Refusal, Visits, cyclic, done, fetched, is_there, missing, too_many, unread}
use Rattle.cu_modules.proofs.LookUpLemmas.{in_some, some_map, tells_map}
use Rattle.cu_modules.proofs.MeaningLemmas.{modules_same}

-- ---- before a module is looked up

pub done_visit : (names : List (List ℕ)) (p : Progress) (name : NameId) (o : Option Holdings) (dir : List ℕ) → is_there (modules_of names p.done.items) (text_of names name) ≡ true
    → IfSome o (λ held. Visits (held.module_at dir) (texts_of names p.path.items) (modules_of names p.done.items) (text_of names name) (Ok (modules_of names p.done.items)))
done_visit names p name o dir there =
    in_some (λ (held : Holdings). Visits (held.module_at dir) (texts_of names p.path.items) (modules_of names p.done.items) (text_of names name) (Ok (modules_of names p.done.items)))
    (λ held. done (texts_of names p.path.items) (modules_of names p.done.items) (text_of names name) there) o

pub new_at : (names : List (List ℕ)) (p : Progress) (name : NameId) (slice : List NameId) → Stands names p → IsKnown names name → slice ≡ p.path.items → is_there (modules_of names p.done.items) (text_of names name) ≡ false
    → (AllDiffer names → All (IsKnown names) slice → IsKnown names name → is_among (texts_of names slice) (text_of names name) ≡ false)
    → IsNew (texts_of names p.path.items) (modules_of names p.done.items) (text_of names name)
new_at names p name slice stands known same not_done not_met = record {
  not_done = not_done;
  not_met = ap (λ path. is_among (texts_of names path) (text_of names name)) (sym same) ∙ not_met stands.differ (subst (All (IsKnown names)) (sym same) stands.path_known) known;
}

pub cycle_told : (names : List (List ℕ)) (p : Progress) (name : NameId) (slice : List NameId) (o : Option Holdings) (dir : List ℕ) (fault : OrderFault) → Stands names p → IsKnown names name → slice ≡ p.path.items
    → is_there (modules_of names p.done.items) (text_of names name) ≡ false
    → (AllDiffer names → All (IsKnown names) slice → IsKnown names name → Tells names (IsCycle (texts_of names slice) (text_of names name)) fault)
    → IfSome o (λ held. Tells names (λ refusal. Visits (held.module_at dir) (texts_of names p.path.items) (modules_of names p.done.items) (text_of names name) (Err refusal)) fault)
cycle_told names p name slice o dir fault stands known same not_done told =
    let P = texts_of names p.path.items in
    let M = modules_of names p.done.items in
    let t = text_of names name in
    let met = subst (λ (path : List NameId). Tells names (IsCycle (texts_of names path) t) fault) same (told stands.differ (subst (All (IsKnown names)) (sym same) stands.path_known) known) in
    in_some (λ (held : Holdings). Tells names (λ refusal. Visits (held.module_at dir) P M t (Err refusal)) fault)
    (λ held. tells_map names (IsCycle P t) (λ refusal. Visits (held.module_at dir) P M t (Err refusal))
    (λ refusal h. subst (λ (r : Refusal). Visits (held.module_at dir) P M t (Err r)) (sym h.refused) (cyclic P M t not_done h.met)) fault met) o

-- ---- a module that is new

pub open_at : (path : List (List ℕ)) (before : List Named) (name : List ℕ) (count : ℕ) → count ≡ fetched path before → IsNew path before name → IsFree count name → IsOpen path before name
open_at path before name count is is_new (inl built) = record { new = is_new; few = inl built }
open_at path before name count is is_new (inr few) = record { new = is_new; few = inr (λ full. few (is ∙ full)) }

lacking_visit : (held : List ℕ → Option (List ℕ)) (path : List (List ℕ)) (before : List Named) (name : List ℕ) (count : ℕ) (refusal : Refusal) → count ≡ fetched path before → IsNew path before name
    → IsLacking held count name refusal → Visits held path before name (Err refusal)
lacking_visit held path before name count refusal is is_new (found.too_many not_built full) = too_many path before name is_new not_built (sym is ∙ full)
lacking_visit held path before name count refusal is is_new (found.missing free none) = missing path before name (open_at path before name count is is_new free) none
lacking_visit held path before name count refusal is is_new (found.unread r text free some fault) =
    subst (λ (r : Refusal). Visits held path before name (Err r)) (sym fault.refused) (unread path before name text fault.fault (open_at path before name count is is_new free) some fault.read)

pub lacking_told : (names new : List (List ℕ)) (p : Progress) (name : NameId) (o : Option Holdings) (dir : List ℕ) (fault : OrderFault) → Stands names p
    → IsNew (texts_of names p.path.items) (modules_of names p.done.items) (text_of names name) → IfSome o (λ held. Tells new (IsLacking (held.module_at dir) p.fetched (text_of names name)) fault)
    → IfSome o (λ held. Tells new (λ refusal. Visits (held.module_at dir) (texts_of names p.path.items) (modules_of names p.done.items) (text_of names name) (Err refusal)) fault)
lacking_told names new p name o dir fault stands is_new told =
    let P = texts_of names p.path.items in
    let M = modules_of names p.done.items in
    let t = text_of names name in
    some_map (λ (held : Holdings). Tells new (IsLacking (held.module_at dir) p.fetched t) fault) (λ (held : Holdings). Tells new (λ refusal. Visits (held.module_at dir) P M t (Err refusal)) fault)
    (λ held. tells_map new (IsLacking (held.module_at dir) p.fetched t) (λ refusal. Visits (held.module_at dir) P M t (Err refusal))
    (λ refusal. lacking_visit (held.module_at dir) P M t p.fetched refusal stands.counted is_new) fault) o told

-- ---- the path, and what is done

pub done_is : {old new : List (List ℕ)} → Extends old new → (before : Progress) (ms : List Module) → Stands old before → ms ≡ before.done.items → modules_of new ms ≡ modules_of old before.done.items
done_is {old} {new} grown before ms stands is = ap (modules_of new) is ∙ modules_same grown before.done.items stands.done_known

pub popped : (path old left : List NameId) (id : NameId) (n : ℕ) → old ≡ path ++ id ∷ [] → length old ≡ n → left ≡ take (n - 1) old → left ≡ path
popped path old left id n is count rest =
    rest ∙ ap (take (n - 1)) is ∙ ap (λ k. take k (path ++ id ∷ [])) (short n (length path) (sym count ∙ ap length is ∙ length-append path (id ∷ []))) ∙ take-append_seam path (id ∷ [])
  where
    short : (n k : ℕ) → n ≡ k + 1 → n - 1 ≡ k
    short n k e = omega arith

-- ---- the measure

at_most_two : (a b : Bool) → one_if a + one_if b ≤ 2
at_most_two true true = omega arith
at_most_two true false = omega arith
at_most_two false true = omega arith
at_most_two false false = omega arith

-- no more than 1,002 modules are on the path or done
pub room_left : (names : List (List ℕ)) (p : Progress) → Stands names p → length p.path.items + length p.done.items ≤ 1002
room_left names p stands =
    let met = at_most_two (is_met (texts_of names p.path.items) (modules_of names p.done.items) prelude_name) (is_met (texts_of names p.path.items) (modules_of names p.done.items) set_functions_name) in
    bounded (length p.path.items + length p.done.items) p.fetched (built_in_met (texts_of names p.path.items) (modules_of names p.done.items)) stands.room stands.few met
  where
    bounded : (n count met : ℕ) → n ≡ count + met → count ≤ 1000 → met ≤ 2 → n ≤ 1002
    bounded n count met e f g = omega arith

pub falls_inside : (names : List (List ℕ)) (before after : Progress) (name : NameId) (m : Module) (imports : List NameId) (frames n deeper : ℕ) → n ≡ frames + 1 → deeper ≡ frames + 2 → Enters names before after name m imports
    → 2 * (1002 - (length after.path.items + length after.done.items)) + deeper < 2 * (1002 - (length before.path.items + length before.done.items)) + n
falls_inside names before after name m imports frames n deeper one two enters =
    let longer = ap length enters.path ∙ length-append before.path.items (name ∷ []) in
    less (length after.path.items) (length before.path.items) (length after.done.items) (length before.done.items) frames n deeper longer (ap length enters.done) one two (room_left names after enters.stands)
  where
    less : (a b c d frames n deeper : ℕ) → a ≡ b + 1 → c ≡ d → n ≡ frames + 1 → deeper ≡ frames + 2 → a + c ≤ 1002 → 2 * (1002 - (a + c)) + deeper < 2 * (1002 - (b + d)) + n
    less a b c d frames n deeper e f g h i = omega arith

pub falls_outside : (path less base : List NameId) (name : NameId) (all more : List Module) (m : Module) (n frames : ℕ) → path ≡ base ++ name ∷ [] → less ≡ base → more ≡ all ++ m ∷ [] → n ≡ frames + 1
    → 2 * (1002 - (length less + length more)) + frames < 2 * (1002 - (length path + length all)) + n
falls_outside path less base name all more m n frames is are pushed count =
    fall (length path) (length less) (length all) (length more) n frames (ap length is ∙ length-append base (name ∷ []) ∙ ap (λ ids. length ids + 1) (sym are)) (ap length pushed ∙ length-append all (m ∷ [])) count
  where
    fall : (a b c d n frames : ℕ) → a ≡ b + 1 → d ≡ c + 1 → n ≡ frames + 1 → 2 * (1002 - (b + d)) + frames < 2 * (1002 - (a + c)) + n
    fall a b c d n frames e f g = omega arith

-- ---- answers with the fault of a call

pub with_fault : {A : Type 0} (o : Option Holdings) (P : Holdings → OrderFault → Type 0) (result : Result A OrderFault) (fault : OrderFault) → IsErrAnd result (λ e. e ≡ fault) → IfSome o (λ held. P held fault) → IfSome o (λ held. IfErr result (P held))
with_fault o P (Ok a) fault is h = absurd is
with_fault o P (Err e) fault is h = some_map (λ held. P held fault) (λ held. P held e) (λ held p. subst (P held) (sym is) p) o h
