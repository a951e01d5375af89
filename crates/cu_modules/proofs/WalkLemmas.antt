-- A walk goes on with the innermost of the modules on the path.
use Rattle.std.proofs.Common.{◌≡◌, ◌∙◌, ◌+◌, ◌-◌, ℕ, true, List, [], ◌∷◌, ◌++◌, map, take, Some, None, Option, Ok, Err, Result, Global, refl, sym, ap, subst, arith, append_assoc, append-nil, length, reverse}
use Rattle.std.proofs.lemmas.List.{length-append, map-append, reverse-append}
use Rattle.std.proofs.lemmas.List.Elements.{All-cons, All-head, All-map, All-nil, All-tail, All-weaker}
use Rattle.std.specs.declared.vec.IntoIter.{IntoIter}
use Rattle.std.specs.List.{All}
use Rattle.std.specs.Prelude.{IfSome}
use Rattle.std.specs.Vec.Iter.{into_iter_items}
use Rattle.cu_io.specs.Holdings.{Holdings}
use Rattle.cu_names.proofs.Growth.{extends-trans, text_of-extends}
use Rattle.cu_names.specs.declared.names.NameId.{NameId}
use Rattle.cu_names.specs.Texts.{Extends, IsKnown, text_of}
use Rattle.cu_syntax.specs.Answer.{module_meaning}
use Rattle.cu_uses.specs.Binders.{is_among}
use Rattle.cu_modules.specs.declared.fault.OrderFault.{OrderFault}
use Rattle.cu_modules.specs.declared.modules.Module.{Module}
use Rattle.cu_modules.specs.declared.visits.Frame.{Frame}
use Rattle.cu_modules.specs.declared.visits.Progress.{Progress}
use Rattle.cu_modules.specs.Inside.Frames.{ArePending, Finishes, IsPending, Open, Skipped, path_of}
use Rattle.cu_modules.specs.Ordering.{Tells, module_of, modules_of, texts_of}
use Rattle.cu_modules.specs.Inside.Progress.{Came, Enters, IsFound, Stands}
use Rattle.cu_modules.specs.Reading.{HasModule}
use Rattle.cu_modules.specs.Scopes.{Named}
use Rattle.cu_modules.specs.Texts.{IsRead}
use Rattle.cu_modules.specs.Walk.{IsNew, IsOpen, Refusal, Visits, import_names, is_there, source}
use Rattle.cu_modules.proofs.FrameLemmas.{IsBegun, among_last, finishes_first, finishes_inside, finishes_outside, finishes_refused, imports_met, pending_inside}
use Rattle.cu_modules.proofs.LookUpLemmas.{some_map, tells_map}
use Rattle.cu_modules.proofs.MeaningLemmas.{all_known, has_module, meaning_same, texts_same}
use Rattle.cu_modules.proofs.SeekLemmas.{known_left}
use Rattle.cu_modules.proofs.StandsLemmas.{called, modules_push, off_path, stands_at, texts_push, there_among}
use Rattle.cu_modules.proofs.VisitLemmas.{done_is, open_at, popped}

-- ---- modules on the path, under a table of names

abbrev pub open_of : List (List ℕ) → Frame → Open
open_of names f = record { name = text_of names f.«module».name; syntax = module_meaning names f.«module».syntax; left = texts_of names (into_iter_items f.left) }

abbrev pub opens_of : List (List ℕ) → List Frame → List Open
opens_of names frames = map (open_of names) frames

abbrev pub ids_of : List NameId → List Frame → List NameId
ids_of base [] = base
ids_of base (f ∷ outer) = ids_of base outer ++ f.«module».name ∷ []

pub record HasFrame (names : List (List ℕ)) (f : Frame) : Type 0 where
  pub has : HasModule names f.«module»
  pub known : All (IsKnown names) (into_iter_items f.left)

frames_grow : {old new : List (List ℕ)} → Extends old new → (frames : List Frame) → All (HasFrame old) frames → All (HasFrame new) frames
frames_grow {old} {new} grown frames have =
    All-weaker (HasFrame old) (HasFrame new) (λ f h. record { has = has_module grown f.«module» h.has; known = all_known grown (into_iter_items f.left) h.known }) frames have

opens_same : {old new : List (List ℕ)} → Extends old new → (frames : List Frame) → All (HasFrame old) frames → opens_of new frames ≡ opens_of old frames
opens_same {old} {new} grown [] have = refl
opens_same {old} {new} grown (f ∷ frames) have =
    let h = All-head (HasFrame old) f frames have in
    (λ j. record {
      name = text_of-extends grown f.«module».name h.has.known j;
      syntax = meaning_same grown f.«module».name f.«module».syntax h.has.owned j;
      left = texts_same grown (into_iter_items f.left) h.known j;
    } ∷ opens_same grown frames (All-tail (HasFrame old) f frames have) j)

paths_are : {old names : List (List ℕ)} → Extends old names → (base : List NameId) (frames : List Frame) → All (IsKnown old) base → texts_of names (ids_of base frames) ≡ path_of (texts_of old base) (opens_of names frames)
paths_are {old} {names} grown base [] known = texts_same grown base known
paths_are {old} {names} grown base (f ∷ outer) known =
    texts_push names (ids_of base outer) f.«module».name ∙ ap (λ path. path ++ text_of names f.«module».name ∷ []) (paths_are grown base outer known)

-- ---- a module that is entered

name_is : {old new : List (List ℕ)} → Extends old new → (name id : NameId) → name ≡ id → IsKnown old id → text_of new name ≡ text_of old id
name_is {old} {new} grown name id same known = ap (text_of new) same ∙ text_of-extends grown id known

begun_at : {old new : List (List ℕ)} → Extends old new → (held : List ℕ → Option (List ℕ)) (before after : Progress) (id : NameId) (f : Frame) → Stands old before → IsKnown old id
    → IsNew (texts_of old before.path.items) (modules_of old before.done.items) (text_of old id) → Enters new before after id f.«module» (into_iter_items f.left)
    → IsFound held before.fetched (text_of old id) (module_meaning new f.«module».syntax) → IsBegun held (texts_of old before.path.items) (modules_of old before.done.items) (open_of new f)
begun_at {old} {new} grown held before after id f stands known is_new enters found =
    let P = texts_of old before.path.items in
    let M = modules_of old before.done.items in
    let same = sym (name_is grown f.«module».name id enters.called known) in
    record {
      is_open = subst (IsOpen P M) same (open_at P M (text_of old id) before.fetched stands.counted is_new found.free);
      text = found.text;
      is = ap (source held) (sym same) ∙ found.is;
      read = subst (λ (name : List ℕ). IsRead name found.text (Ok (module_meaning new f.«module».syntax))) same found.read;
      imports = sym enters.imports.are;
    }

pending_at : {old new : List (List ℕ)} → Extends old new → (before after : Progress) (id : NameId) (f : Frame) (met : List (List ℕ)) → IsKnown old id
    → IsNew (texts_of old before.path.items) (modules_of old before.done.items) (text_of old id) → Enters new before after id f.«module» (into_iter_items f.left)
    → IsPending (texts_of old before.path.items) met (open_of new f)
pending_at {old} {new} grown before after id f met known is_new enters = record {
  prefix = [];
  imports = sym enters.imports.are;
  there = All-nil (λ text. is_among met text ≡ true);
  new = ap (is_among (texts_of old before.path.items)) (name_is grown f.«module».name id enters.called known) ∙ is_new.not_met;
  own = enters.own;
}

-- ---- the walk

-- What the modules on the path come to, the root comes to.
pub record Going (old names : List (List ℕ)) (before now : Progress) (frames : List Frame) (root : NameId) (o : Option Holdings) (dir : List ℕ) : Type 0 where
  pub extends : Extends old names
  pub stands : Stands names now
  pub path : now.path.items ≡ ids_of before.path.items frames
  pub more : List Module
  pub done : now.done.items ≡ before.done.items ++ more
  pub have : All (HasFrame names) frames
  pub pending : ArePending (texts_of old before.path.items) (text_of old root) (called (modules_of names now.done.items)) (opens_of names frames)
  pub visits : IfSome o (λ held. (outcome : Result (List Named) Refusal)
      → Finishes (held.module_at dir) (texts_of old before.path.items) (opens_of names frames) (modules_of names now.done.items) outcome
      → Visits (held.module_at dir) (texts_of old before.path.items) (modules_of old before.done.items) (text_of old root) outcome)

-- the path in texts
path_now : {old names : List (List ℕ)} (before now : Progress) (frames : List Frame) (root : NameId) (o : Option Holdings) (dir : List ℕ) → Stands old before → Going old names before now frames root o dir
    → texts_of names now.path.items ≡ path_of (texts_of old before.path.items) (opens_of names frames)
path_now {old} {names} before now frames root o dir stands going = ap (texts_of names) going.path ∙ paths_are going.extends before.path.items frames stands.path_known

pub going_first : {old new : List (List ℕ)} → Extends old new → (before after : Progress) (f : Frame) (frames : List Frame) (root : NameId) (o : Option Holdings) (dir : List ℕ) → frames ≡ f ∷ [] → Stands old before → IsKnown old root
    → IsNew (texts_of old before.path.items) (modules_of old before.done.items) (text_of old root) → Enters new before after root f.«module» (into_iter_items f.left)
    → IfSome o (λ held. IsFound (held.module_at dir) before.fetched (text_of old root) (module_meaning new f.«module».syntax))
    → Going old new before after frames root o dir
going_first {old} {new} grown before after f frames root o dir one stands known is_new enters found =
    let P = texts_of old before.path.items in
    let M = modules_of old before.done.items in
    let t = text_of old root in
    let m = open_of new f in
    let same = name_is grown f.«module».name root enters.called known in
    let ms = done_is grown before after.done.items stands enters.done in
    let met = called (modules_of new after.done.items) in
    let going : Going old new before after (f ∷ []) root o dir = record {
      extends = grown;
      stands = enters.stands;
      path = enters.path ∙ ap (λ (name : NameId). before.path.items ++ name ∷ []) (sym enters.called);
      more = [];
      done = enters.done ∙ sym (append-nil before.done.items);
      have = All-cons (HasFrame new) f [] (record { has = enters.has; known = enters.imports.known }) (All-nil (HasFrame new));
      pending = (pending_at grown before after root f met known is_new enters, ap (is_among (met ++ m.name ∷ [])) (sym same) ∙ among_last met m.name);
      visits =
          some_map (λ (held : Holdings). IsFound (held.module_at dir) before.fetched t (module_meaning new f.«module».syntax))
          (λ (held : Holdings). (outcome : Result (List Named) Refusal) → Finishes (held.module_at dir) P (m ∷ []) (modules_of new after.done.items) outcome → Visits (held.module_at dir) P M t outcome)
          (λ held looked outcome h. subst (λ (name : List ℕ). Visits (held.module_at dir) P M name outcome) same
          (finishes_first (held.module_at dir) P M m outcome (begun_at grown (held.module_at dir) before after root f stands known is_new enters looked)
          (subst (λ (ms : List Named). Finishes (held.module_at dir) P (m ∷ []) ms outcome) ms h))) o found;
    } in
    subst (λ (frames : List Frame). Going old new before after frames root o dir) (sym one) going

both_map : {A : Type 0} (P Q R : A → Type 0) → ((a : A) → P a → Q a → R a) → (o : Option A) → IfSome o P → IfSome o Q → IfSome o R
both_map P Q R go (Some a) p q = go a p q
both_map P Q R go None p q = tt

-- imports that are done, in texts
there_texts : (names : List (List ℕ)) (done : List Module) (prefix : List NameId) → All (λ id. is_there (modules_of names done) (text_of names id) ≡ true) prefix → All (λ text. is_there (modules_of names done) text ≡ true) (texts_of names prefix)
there_texts names done prefix there = All-map (λ text. is_there (modules_of names done) text ≡ true) (text_of names) prefix there

there_met : (ms : List Named) (texts : List (List ℕ)) → All (λ text. is_there ms text ≡ true) texts → All (λ text. is_among (called ms) text ≡ true) texts
there_met ms texts there = All-weaker (λ text. is_there ms text ≡ true) (λ text. is_among (called ms) text ≡ true) (λ text h. sym (there_among ms text) ∙ h) texts there

met_there : (ms : List Named) (texts : List (List ℕ)) → All (λ text. is_among (called ms) text ≡ true) texts → All (λ text. is_there ms text ≡ true) texts
met_there ms texts met = All-weaker (λ text. is_among (called ms) text ≡ true) (λ text. is_there ms text ≡ true) (λ text h. there_among ms text ∙ h) texts met

-- the import that isn't done, in texts
whole_texts : (names : List (List ℕ)) (all prefix later : List NameId) (id : NameId) → all ≡ prefix ++ id ∷ later → texts_of names all ≡ texts_of names prefix ++ text_of names id ∷ texts_of names later
whole_texts names all prefix later id whole = ap (texts_of names) whole ∙ map-append (text_of names) prefix (id ∷ later)

pub import_known : {old names : List (List ℕ)} (before now : Progress) (f : Frame) (outer frames : List Frame) (root id : NameId) (later : List NameId) (o : Option Holdings) (dir : List ℕ) → frames ≡ f ∷ outer → Going old names before now frames root o dir
    → Skipped names now.done.items (into_iter_items f.left) (id ∷ later) → IsKnown names id
import_known {old} {names} before now f outer frames root id later o dir is going skipped =
    let has = All-head (HasFrame names) f outer (subst (All (HasFrame names)) is going.have) in
    All-head (IsKnown names) id later (known_left names now.done.items (into_iter_items f.left) (id ∷ later) has.known skipped)

pub going_refused : {old middle : List (List ℕ)} (new : List (List ℕ)) (before now : Progress) (f : Frame) (outer frames : List Frame) (root id : NameId) (later : List NameId) (o : Option Holdings) (dir : List ℕ) (fault : OrderFault)
    → Stands old before → frames ≡ f ∷ outer → Going old middle before now frames root o dir → Skipped middle now.done.items (into_iter_items f.left) (id ∷ later)
    → IfSome o (λ held. Tells new (λ refusal. Visits (held.module_at dir) (texts_of middle now.path.items) (modules_of middle now.done.items) (text_of middle id) (Err refusal)) fault)
    → IfSome o (λ held. Tells new (λ refusal. Visits (held.module_at dir) (texts_of old before.path.items) (modules_of old before.done.items) (text_of old root) (Err refusal)) fault)
going_refused {old} {middle} new before now f outer frames root id later o dir fault stands is whole_going skipped told =
    let P = texts_of old before.path.items in
    let M = modules_of middle now.done.items in
    let M0 = modules_of old before.done.items in
    let t = text_of old root in
    let m = open_of middle f in
    let going = subst (λ (frames : List Frame). Going old middle before now frames root o dir) is whole_going in
    let path = path_now before now (f ∷ outer) root o dir stands going in
    both_map (λ (held : Holdings). (outcome : Result (List Named) Refusal) → Finishes (held.module_at dir) P (opens_of middle (f ∷ outer)) M outcome → Visits (held.module_at dir) P M0 t outcome)
    (λ (held : Holdings). Tells new (λ refusal. Visits (held.module_at dir) (texts_of middle now.path.items) M (text_of middle id) (Err refusal)) fault)
    (λ (held : Holdings). Tells new (λ refusal. Visits (held.module_at dir) P M0 t (Err refusal)) fault)
    (λ held go told. tells_map new (λ refusal. Visits (held.module_at dir) (texts_of middle now.path.items) M (text_of middle id) (Err refusal)) (λ refusal. Visits (held.module_at dir) P M0 t (Err refusal))
    (λ refusal visit. go (Err refusal) (finishes_refused (held.module_at dir) P M m (opens_of middle outer) (texts_of middle skipped.prefix) (texts_of middle later) (text_of middle id) refusal
    (whole_texts middle (into_iter_items f.left) skipped.prefix later id skipped.whole) (there_texts middle now.done.items skipped.prefix skipped.there)
    (subst (λ (path : List (List ℕ)). Visits (held.module_at dir) path M (text_of middle id) (Err refusal)) path visit))) fault told)
    o going.visits told

pub going_inside : {old middle new : List (List ℕ)} → Extends middle new → (before now after : Progress) (f inner : Frame) (outer frames deeper : List Frame) (left : IntoIter NameId Global) (root id : NameId) (o : Option Holdings) (dir : List ℕ)
    → Stands old before → frames ≡ f ∷ outer → deeper ≡ inner ∷ record { «module» = f.«module»; left = left } ∷ outer → Going old middle before now frames root o dir
    → Skipped middle now.done.items (into_iter_items f.left) (id ∷ into_iter_items left)
    → IsNew (texts_of middle now.path.items) (modules_of middle now.done.items) (text_of middle id) → Enters new now after id inner.«module» (into_iter_items inner.left)
    → IfSome o (λ held. IsFound (held.module_at dir) now.fetched (text_of middle id) (module_meaning new inner.«module».syntax))
    → Going old new before after deeper root o dir
going_inside {old} {middle} {new} grown before now after f inner outer frames deeper left root id o dir stands is are whole_going skipped is_new enters found =
    let P = texts_of old before.path.items in
    let M = modules_of middle now.done.items in
    let M0 = modules_of old before.done.items in
    let t = text_of old root in
    let later = into_iter_items left in
    let f' : Frame = record { «module» = f.«module»; left = left } in
    let m = open_of middle f in
    let n = open_of new inner in
    let going = subst (λ (frames : List Frame). Going old middle before now frames root o dir) is whole_going in
    let path = path_now before now (f ∷ outer) root o dir stands going in
    let has = All-head (HasFrame middle) f outer going.have in
    let left_known = known_left middle now.done.items (into_iter_items f.left) (id ∷ later) has.known skipped in
    let known = All-head (IsKnown middle) id later left_known in
    let have : All (HasFrame middle) (f' ∷ outer) = All-cons (HasFrame middle) f' outer (record { has = has.has; known = All-tail (IsKnown middle) id later left_known }) (All-tail (HasFrame middle) f outer going.have) in
    let same = name_is grown inner.«module».name id enters.called known in
    let prefix = texts_of middle skipped.prefix in
    let whole = whole_texts middle (into_iter_items f.left) skipped.prefix later id skipped.whole ∙ ap (λ name. prefix ++ name ∷ texts_of middle later) (sym same) in
    let there = there_texts middle now.done.items skipped.prefix skipped.there in
    let opens : n ∷ opens_of middle (f' ∷ outer) ≡ opens_of new (inner ∷ f' ∷ outer) = ap (λ (ms : List Open). n ∷ ms) (sym (opens_same grown (f' ∷ outer) have)) in
    let ms = done_is grown now after.done.items going.stands enters.done in
    let pending = pending_inside P t (called M) n m (opens_of middle outer) prefix (texts_of middle later) whole (there_met M prefix there)
    (subst (λ (path : List (List ℕ)). IsPending path (called M) n) path (pending_at grown now after id inner (called M) known is_new enters)) going.pending in
    let goes : Going old new before after (inner ∷ f' ∷ outer) root o dir = record {
      extends = extends-trans going.extends grown;
      stands = enters.stands;
      path = enters.path ∙ (λ j. going.path j ++ sym enters.called j ∷ []);
      more = going.more;
      done = enters.done ∙ going.done;
      have = All-cons (HasFrame new) inner (f' ∷ outer) (record { has = enters.has; known = enters.imports.known }) (frames_grow grown (f' ∷ outer) have);
      pending = subst (λ (ms : List Named). ArePending P t (called ms) (opens_of new (inner ∷ f' ∷ outer))) (sym ms) (subst (ArePending P t (called M)) opens pending);
      visits =
          both_map (λ (held : Holdings). (outcome : Result (List Named) Refusal) → Finishes (held.module_at dir) P (opens_of middle (f ∷ outer)) M outcome → Visits (held.module_at dir) P M0 t outcome)
          (λ (held : Holdings). IsFound (held.module_at dir) now.fetched (text_of middle id) (module_meaning new inner.«module».syntax))
          (λ (held : Holdings). (outcome : Result (List Named) Refusal) → Finishes (held.module_at dir) P (opens_of new (inner ∷ f' ∷ outer)) (modules_of new after.done.items) outcome → Visits (held.module_at dir) P M0 t outcome)
          (λ held go looked outcome h. go outcome (finishes_inside (held.module_at dir) P M n m (opens_of middle outer) prefix (texts_of middle later) outcome whole there
          (subst (λ (path : List (List ℕ)). IsBegun (held.module_at dir) path M n) path (begun_at grown (held.module_at dir) now after id inner going.stands known is_new enters looked))
          (subst (λ (ms : List Open). Finishes (held.module_at dir) P ms M outcome) (sym opens) (subst (λ (ms : List Named). Finishes (held.module_at dir) P (opens_of new (inner ∷ f' ∷ outer)) ms outcome) ms h))))
          o going.visits found;
    } in
    subst (λ (frames : List Frame). Going old new before after frames root o dir) (sym are) goes

pub going_outside : {old names : List (List ℕ)} (before now after : Progress) (f : Frame) (outer frames : List Frame) (root : NameId) (count : ℕ) (o : Option Holdings) (dir : List ℕ) → Stands old before → frames ≡ f ∷ outer
    → Going old names before now frames root o dir → Skipped names now.done.items (into_iter_items f.left) [] → after.prelude ≡ now.prelude → length now.path.items ≡ count → after.path.items ≡ take (count - 1) now.path.items
    → after.done.items ≡ now.done.items ++ f.«module» ∷ [] → after.fetched ≡ now.fetched → Going old names before after outer root o dir
going_outside {old} {names} before now after f outer frames root count o dir stands is whole_going skipped same_prelude long rest more_done same_count =
    let P = texts_of old before.path.items in
    let M = modules_of names now.done.items in
    let M0 = modules_of old before.done.items in
    let t = text_of old root in
    let m = open_of names f in
    let n = module_of names f.«module» in
    let base = ids_of before.path.items outer in
    let going = subst (λ (frames : List Frame). Going old names before now frames root o dir) is whole_going in
    let has = All-head (HasFrame names) f outer going.have in
    let path = popped base now.path.items after.path.items f.«module».name count going.path long rest in
    let there = subst (All (λ text. is_there M text ≡ true)) (ap (texts_of names) (sym (skipped.whole ∙ append-nil skipped.prefix))) (there_texts names now.done.items skipped.prefix skipped.there) in
    let imported = met_there M (import_names n) (imports_met (path_of P (opens_of names outer)) (called M) m going.pending.0 (there_met M m.left there)) in
    let not_met = ap (λ path. is_among path m.name) (paths_are going.extends before.path.items outer stands.path_known) ∙ going.pending.0.new in
    let at = stands_at names now.prelude now.prelude now.path.items (base ++ f.«module».name ∷ []) now.done.items now.done.items now.fetched now.fetched refl (sym going.path) refl refl going.stands in
    let ms = ap (modules_of names) more_done ∙ modules_push names now.done.items f.«module» in
    let met : called (modules_of names after.done.items) ≡ called M ++ m.name ∷ [] = ap called ms ∙ map-append (λ (m : Named). m.name) M (n ∷ []) in
    record {
      extends = going.extends;
      stands = stands_at names now.prelude after.prelude base after.path.items (now.done.items ++ f.«module» ∷ []) after.done.items now.fetched after.fetched same_prelude path more_done same_count
          (off_path names now.prelude f.«module».name base now.done.items now.fetched f.«module» at refl has.has not_met imported going.pending.0.own);
      path = path;
      more = going.more ++ f.«module» ∷ [];
      done = more_done ∙ ap (λ done. done ++ f.«module» ∷ []) going.done ∙ append_assoc before.done.items going.more (f.«module» ∷ []);
      have = All-tail (HasFrame names) f outer going.have;
      pending = subst (λ (met : List (List ℕ)). ArePending P t met (opens_of names outer)) (sym met) going.pending.1;
      visits =
          some_map (λ (held : Holdings). (outcome : Result (List Named) Refusal) → Finishes (held.module_at dir) P (opens_of names (f ∷ outer)) M outcome → Visits (held.module_at dir) P M0 t outcome)
          (λ (held : Holdings). (outcome : Result (List Named) Refusal) → Finishes (held.module_at dir) P (opens_of names outer) (modules_of names after.done.items) outcome → Visits (held.module_at dir) P M0 t outcome)
          (λ held go outcome h. go outcome (finishes_outside (held.module_at dir) P M m (opens_of names outer) outcome there
          (subst (λ (ms : List Named). Finishes (held.module_at dir) P (opens_of names outer) ms outcome) ms h))) o going.visits;
    }

-- ---- no module is left on the path

pub all_came : {old names : List (List ℕ)} (before now : Progress) (frames : List Frame) (root : NameId) (o : Option Holdings) (dir : List ℕ) → frames ≡ [] → Going old names before now frames root o dir → Came names before now
all_came before now frames root o dir none going = record {
  stands = going.stands;
  path = going.path ∙ ap (ids_of before.path.items) none;
  more = going.more;
  done = going.done;
}

pub root_there : {old names : List (List ℕ)} (before now : Progress) (frames : List Frame) (root : NameId) (o : Option Holdings) (dir : List ℕ) → frames ≡ [] → Going old names before now frames root o dir
    → is_there (modules_of names now.done.items) (text_of old root) ≡ true
root_there {old} {names} before now frames root o dir none going =
    let M = modules_of names now.done.items in
    there_among M (text_of old root) ∙ subst (λ (frames : List Frame). ArePending (texts_of old before.path.items) (text_of old root) (called M) (opens_of names frames)) none going.pending

pub root_visited : {old names : List (List ℕ)} (before now : Progress) (frames : List Frame) (root : NameId) (o : Option Holdings) (dir : List ℕ) → frames ≡ [] → Going old names before now frames root o dir
    → IfSome o (λ held. Visits (held.module_at dir) (texts_of old before.path.items) (modules_of old before.done.items) (text_of old root) (Ok (modules_of names now.done.items)))
root_visited {old} {names} before now frames root o dir none whole_going =
    let P = texts_of old before.path.items in
    let M = modules_of names now.done.items in
    let M0 = modules_of old before.done.items in
    let t = text_of old root in
    let going = subst (λ (frames : List Frame). Going old names before now frames root o dir) none whole_going in
    some_map (λ (held : Holdings). (outcome : Result (List Named) Refusal) → Finishes (held.module_at dir) P [] M outcome → Visits (held.module_at dir) P M0 t outcome)
    (λ (held : Holdings). Visits (held.module_at dir) P M0 t (Ok M)) (λ held go. go (Ok M) refl) o going.visits

-- ---- frames as a stack

pub last_frame : (frames rest : List Frame) (f : Frame) → frames ≡ rest ++ f ∷ [] → reverse frames ≡ f ∷ reverse rest
last_frame frames rest f is = ap reverse is ∙ reverse-append rest (f ∷ [])

pub two_frames : (frames more rest : List Frame) (f inner : Frame) → more ≡ rest ++ f ∷ [] → frames ≡ more ++ inner ∷ [] → reverse frames ≡ inner ∷ f ∷ reverse rest
two_frames frames more rest f inner is are = last_frame frames more inner are ∙ ap (λ fs. inner ∷ fs) (last_frame more rest f is)

pub first_frame : (frames none : List Frame) (f : Frame) → none ≡ [] → frames ≡ none ++ f ∷ [] → reverse frames ≡ f ∷ []
first_frame frames none f is are = last_frame frames none f are ∙ ap (λ fs. f ∷ reverse fs) is

pub one_longer : (frames rest : List Frame) (f : Frame) → frames ≡ rest ++ f ∷ [] → length frames ≡ length rest + 1
one_longer frames rest f is = ap length is ∙ length-append rest (f ∷ [])

pub two_longer : (frames more rest : List Frame) (f inner : Frame) → more ≡ rest ++ f ∷ [] → frames ≡ more ++ inner ∷ [] → length frames ≡ length rest + 2
two_longer frames more rest f inner is are = let a = one_longer more rest f is in let b = one_longer frames more inner are in omega arith

pub imports_known : {old names : List (List ℕ)} (before now : Progress) (f : Frame) (outer frames : List Frame) (root : NameId) (o : Option Holdings) (dir : List ℕ) → frames ≡ f ∷ outer → Going old names before now frames root o dir
    → All (IsKnown names) (into_iter_items f.left)
imports_known {old} {names} before now f outer frames root o dir is going = (All-head (HasFrame names) f outer (subst (All (HasFrame names)) is going.have)).known
