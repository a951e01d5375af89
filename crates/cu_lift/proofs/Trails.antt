-- A search along edges finds what is reached, and walks to it.
use Rattle.std.proofs.Common.{◌≡◌, ◌≢◌, ℕ, zero, suc, ◌+◌, ◌<◌, ◌⊎◌, inl, inr, Bool, true, false, List, [], ◌∷◌, ◌++◌, length, replicate, reverse, set, slice_get, Some, refl, ap, sym, ◌∙◌, subst, arith, length-append, append_assoc}
use Rattle.std.proofs.Math.ListN.{length-set}
use Rattle.std.proofs.lemmas.List.{reverse-append}
use Rattle.cu_calculus.proofs.Lists.{get_prefix, get_last}
use Rattle.cu_calculus.specs.declared.FunId.{FunId}
use Rattle.cu_cycles.proofs.Places.{prefix_or_last, nothing_after, one_element, same_or_not, set_cases, set_elsewhere, set_there, within}
use Rattle.cu_cycles.specs.Graph as graph
use Rattle.cu_cycles.specs.Graph.{Edge, Graph, Reach}
use Rattle.cu_lift.specs.Inside.Trail as trail
use Rattle.cu_lift.specs.Inside.Trail.{Begins, Grows, IsDone, IsTrail, Linked, Meeting, Steps, Trails, unmet}
use Rattle.cu_lift.specs.declared.walks.Found.{Found}
use Rattle.cu_lift.specs.declared.walks.Spread.{Spread}

pub unmet_set : (met : List Bool) (t : ℕ) → slice_get met t ≡ Some false → unmet (set met t true) + 1 ≡ unmet met
unmet_set [] t e = let no : ⊥ = cc in absurd no
unmet_set (true ∷ met) zero e = let no : ⊥ = cc in absurd no
unmet_set (false ∷ met) zero e = refl
unmet_set (true ∷ met) (suc t) e = unmet_set met t e
unmet_set (false ∷ met) (suc t) e = let rest : unmet (set met t true) + 1 ≡ unmet met = unmet_set met t e in omega arith

unmet_all : (n : ℕ) → unmet (replicate n false) ≡ n
unmet_all zero = refl
unmet_all (suc n) = let rest : unmet (replicate n false) ≡ n = unmet_all n in omega arith

all_unmet : (n v : ℕ) (b : Bool) → slice_get (replicate n false) v ≡ Some b → b ≡ false
all_unmet zero v b e = let no : ⊥ = cc in absurd no
all_unmet (suc n) zero b e = cc
all_unmet (suc n) (suc v) b e = all_unmet n v b e

unmet_there : (n v : ℕ) → v < n → slice_get (replicate n false) v ≡ Some false
unmet_there zero v h = absurd (omega arith)
unmet_there (suc n) zero h = refl
unmet_there (suc n) (suc v) h = unmet_there n v (omega arith)

unmet_length : (n : ℕ) → length (replicate n false) ≡ n
unmet_length zero = refl
unmet_length (suc n) = ap suc (unmet_length n)

none_after : {A : Type 0} (x y : A) (i : ℕ) → slice_get (x ∷ []) (suc i) ≡ Some y → ⊥
none_after x y i e = cc

module _ (g : Graph) (start : ℕ) (low : start < length g) where
  abbrev first : Found
  first = record { function = start; from = 0 }

  abbrev met : List Bool
  met = set (replicate (length g) false) start true

  is_met : slice_get met start ≡ Some true
  is_met = set_there (replicate (length g) false) start true false (unmet_there (length g) start low)

  link : (i : ℕ) (f : Found) → slice_get (first ∷ []) i ≡ Some f → 0 < i → Linked g (first ∷ []) i f
  link zero f e h = absurd (omega arith)
  link (suc i) f e h = absurd (none_after first f i e)

  met_found : (v : ℕ) → slice_get met v ≡ Some true → (i : ℕ) × (f : Found) × (slice_get (first ∷ []) i ≡ Some f) × (f.function ≡ v)
  met_found v e = by (set_cases (replicate (length g) false) start v true true e)
    where
      by : ((v ≡ start) × (true ≡ true)) ⊎ ((v ≢ start) × (slice_get (replicate (length g) false) v ≡ Some true))
          → (i : ℕ) × (f : Found) × (slice_get (first ∷ []) i ≡ Some f) × (f.function ≡ v)
      by (inl h) = (0, first, refl, sym h.0)
      by (inr h) = let no : true ≡ false = all_unmet (length g) v true h.1 in absurd (cc)

  found_met : (i : ℕ) (f : Found) → slice_get (first ∷ []) i ≡ Some f → slice_get met f.function ≡ Some true
  found_met zero f e =
      let same : first ≡ f = cc in subst (λ (x : Found). slice_get met x.function ≡ Some true) same is_met
  found_met (suc i) f e = absurd (none_after first f i e)

  pub begun : Trails g (first ∷ []) met
  begun = record {
    sized = length-set (replicate (length g) false) start true ∙ unmet_length (length g);
    link = link;
    met_found = met_found;
    found_met = found_met;
    room =
        let less : unmet met + 1 ≡ unmet (replicate (length g) false) =
        unmet_set (replicate (length g) false) start (unmet_there (length g) start low) in
        let all = unmet_all (length g) in omega arith;
  }

trails_as : (g : Graph) (a b : List Found) (c d : List Bool) → a ≡ b → c ≡ d → Trails g a c → Trails g b d
trails_as g a b c d p q t = subst (λ (x : List Bool). Trails g b x) q (subst (λ (x : List Found). Trails g x c) p t)

pub begins : (g : Graph) (start n : ℕ) (s : Spread) → start < length g → n ≡ length g → Begins start n s → IsTrail g s
begins g start n s low size b =
    trails_as g (first g start low ∷ []) s.found.items (met g start low) s.met.items (sym b.found)
    (ap (λ (k : ℕ). set (replicate k false) start true) (sym size) ∙ sym b.met) (begun g start low)

-- ---- meeting

module _ (g : Graph) (found : List Found) (met : List Bool) (t from : ℕ) (source : Found) (trails : Trails g found met)
    (is_source : slice_get found from ≡ Some source) (edge : Edge g source.function t) (is_new : slice_get met t ≡ Some false) where
  abbrev next : Found
  next = record { function = t; from = from }

  link_then : (i : ℕ) (f : Found) → slice_get (found ++ next ∷ []) i ≡ Some f → 0 < i → Linked g (found ++ next ∷ []) i f
  link_then i f e h = by (prefix_or_last found next i f e)
    where
      by : (slice_get found i ≡ Some f) ⊎ ((i ≡ length found) × (next ≡ f)) → Linked g (found ++ next ∷ []) i f
      by (inl old) =
          let l = trails.link i f old h in
          record { before = l.before; source = l.source; is_there = get_prefix found (next ∷ []) f.from l.source l.is_there; edge = l.edge }
      by (inr k) =
          let place : i ≡ length found = k.0 in
          let low : from < length found = within found from source is_source in
          let one : Linked g (found ++ next ∷ []) i next = record {
            before = omega arith;
            source = source;
            is_there = get_prefix found (next ∷ []) from source is_source;
            edge = edge;
          } in
          subst (λ (x : Found). Linked g (found ++ next ∷ []) i x) k.1 one

  met_found_then : (v : ℕ) → slice_get (set met t true) v ≡ Some true
      → (i : ℕ) × (f : Found) × (slice_get (found ++ next ∷ []) i ≡ Some f) × (f.function ≡ v)
  met_found_then v e = by (set_cases met t v true true e)
    where
      by : ((v ≡ t) × (true ≡ true)) ⊎ ((v ≢ t) × (slice_get met v ≡ Some true))
          → (i : ℕ) × (f : Found) × (slice_get (found ++ next ∷ []) i ≡ Some f) × (f.function ≡ v)
      by (inl h) = (length found, next, get_last found next, sym h.0)
      by (inr h) =
          let old = trails.met_found v h.1 in (old.0, old.1, get_prefix found (next ∷ []) old.0 old.1 old.2, old.3)

  pub met_stays : (v : ℕ) → slice_get met v ≡ Some true → slice_get (set met t true) v ≡ Some true
  met_stays v e = elim (same_or_not v t) [
    | inl same ↦ subst (λ (x : ℕ). slice_get (set met t true) x ≡ Some true) (sym same) (set_there met t true false is_new)
    | inr other ↦ set_elsewhere met t v true other ∙ e
  ]

  found_met_then : (i : ℕ) (f : Found) → slice_get (found ++ next ∷ []) i ≡ Some f → slice_get (set met t true) f.function ≡ Some true
  found_met_then i f e = by (prefix_or_last found next i f e)
    where
      by : (slice_get found i ≡ Some f) ⊎ ((i ≡ length found) × (next ≡ f)) → slice_get (set met t true) f.function ≡ Some true
      by (inl old) = met_stays f.function (trails.found_met i f old)
      by (inr k) = subst (λ (x : Found). slice_get (set met t true) x.function ≡ Some true) k.1 (set_there met t true false is_new)

  pub met_once : Trails g (found ++ next ∷ []) (set met t true)
  met_once = record {
    sized = length-set met t true ∙ trails.sized;
    link = link_then;
    met_found = met_found_then;
    found_met = found_met_then;
    room =
        let less : unmet (set met t true) + 1 ≡ unmet met = unmet_set met t is_new in
        let more : length (found ++ next ∷ []) ≡ length found + 1 = length-append found (next ∷ []) in
        let old = trails.room in omega arith;
  }

pub meets : (g : Graph) (old new : Spread) (t from : ℕ) (source : Found) → IsTrail g old → slice_get old.found.items from ≡ Some source
    → Edge g source.function t → Meeting old new t from → IsTrail g new
meets g old new t from source trails is edge (trail.again e same alike) =
    trails_as g old.found.items new.found.items old.met.items new.met.items (sym same) (sym alike) trails
meets g old new t from source trails is edge (trail.first e more alike) =
    trails_as g (old.found.items ++ next g old.found.items old.met.items t from source trails is edge e ∷ []) new.found.items
    (set old.met.items t true) new.met.items (sym more) (sym alike) (met_once g old.found.items old.met.items t from source trails is edge e)

pub meets_target : (old new : Spread) (t from : ℕ) → Meeting old new t from → slice_get new.met.items t ≡ Some true
meets_target old new t from (trail.again e same alike) = subst (λ (x : List Bool). slice_get x t ≡ Some true) (sym alike) e
meets_target old new t from (trail.first e more alike) =
    subst (λ (x : List Bool). slice_get x t ≡ Some true) (sym alike) (set_there old.met.items t true false e)

still_met : (met : List Bool) (t v : ℕ) → slice_get met t ≡ Some false → slice_get met v ≡ Some true → slice_get (set met t true) v ≡ Some true
still_met met t v is_new e = elim (same_or_not v t) [
  | inl same ↦ subst (λ (x : ℕ). slice_get (set met t true) x ≡ Some true) (sym same) (set_there met t true false is_new)
  | inr other ↦ set_elsewhere met t v true other ∙ e
]

pub meets_grows : (old new : Spread) (t from : ℕ) → Meeting old new t from → Grows old new
meets_grows old new t from (trail.again e same alike) = record {
  found = ([], same ∙ nothing_after old.found.items);
  met = λ v d. subst (λ (x : List Bool). slice_get x v ≡ Some true) (sym alike) d;
}
meets_grows old new t from (trail.first e more alike) = record {
  found = (record { function = t; from = from } ∷ [], more);
  met = λ v d. subst (λ (x : List Bool). slice_get x v ≡ Some true) (sym alike) (still_met old.met.items t v e d);
}

pub grows_on : (one two three : Spread) → Grows one two → Grows two three → Grows one three
grows_on one two three p q = record {
  found = (
    p.found.0 ++ q.found.0,
    q.found.1 ∙ ap (λ (x : List Found). x ++ q.found.0) p.found.1 ∙ append_assoc one.found.items p.found.0 q.found.0,
  );
  met = λ v e. q.met v (p.met v e);
}

pub grows_not : (s : Spread) → Grows s s
grows_not s = record { found = ([], nothing_after s.found.items); met = λ v e. e }

pub found_stays : (old new : Spread) (i : ℕ) (f : Found) → Grows old new → slice_get old.found.items i ≡ Some f → slice_get new.found.items i ≡ Some f
found_stays old new i f grows e =
    subst (λ (x : List Found). slice_get x i ≡ Some f) (sym grows.found.1) (get_prefix old.found.items grows.found.0 i f e)

-- what is done stays done
pub done_stays : (g : Graph) (old new : Spread) (i : ℕ) → Grows old new → i < length old.found.items → IsDone g old i → IsDone g new i
done_stays g old new i grows low done f w e edge =
    let was = Rattle.cu_cycles.proofs.Places.there old.found.items i low in
    let now = found_stays old new i was.0 grows was.1 in
    let same : was.0 ≡ f = one_element new.found.items i was.0 f now e in
    grows.met w (done was.0 w was.1 (subst (λ (x : Found). Edge g x.function w) (sym same) edge))

-- where all is done, what is reached is met
pub all_met : (g : Graph) (s : Spread) → IsTrail g s → ((i : ℕ) → i < length s.found.items → IsDone g s i) → (u w : ℕ) → Reach g u w
    → slice_get s.met.items u ≡ Some true → slice_get s.met.items w ≡ Some true
all_met g s trails done _ _ (graph.here u) e = e
all_met g s trails done _ w (graph.there u v _ edge rest) e =
    let at = trails.met_found u e in
    all_met g s trails done v w rest
    (done at.0 (within s.found.items at.0 at.1 at.2) at.1 v at.2 (subst (λ (x : ℕ). Edge g x v) (sym at.3) edge))

-- ---- what a search can tell

pub found_within : (g : Graph) (s : Spread) (i : ℕ) (f : Found) → IsTrail g s → slice_get s.found.items i ≡ Some f → f.function < length g
found_within g s i f trails e =
    let low = within s.met.items f.function true (trails.found_met i f e) in
    let size = trails.sized in
    omega arith

pub begins_met : (start n : ℕ) (s : Spread) → start < n → Begins start n s → slice_get s.met.items start ≡ Some true
begins_met start n s low b =
    subst (λ (x : List Bool). slice_get x start ≡ Some true) (sym b.met)
    (set_there (replicate n false) start true false (unmet_there n start low))

abbrev pub first_found : ℕ → Found
first_found start = record { function = start; from = 0 }

pub begins_found : (start n : ℕ) (s : Spread) → Begins start n s → slice_get s.found.items 0 ≡ Some (first_found start)
begins_found start n s b = subst (λ (x : List Found). slice_get x 0 ≡ Some (first_found start)) (sym b.found) refl

pub not_missing : (g : Graph) (start end : ℕ) (first s : Spread) → start < length g → Begins start (length g) first → Grows first s → IsTrail g s
    → ((i : ℕ) → i < length s.found.items → IsDone g s i) → Reach g start end
    → ((i : ℕ) (f : Found) → slice_get s.found.items i ≡ Some f → f.function ≡ end → ⊥) → ⊥
not_missing g start end first s low b grows trails done reach missing =
    let met = all_met g s trails done start end reach (grows.met start (begins_met start (length g) first low b)) in
    let at = trails.met_found end met in
    missing at.0 at.1 at.2 at.3

-- a walk gets one more step at its start
pub one_step : (g : Graph) (s : Spread) (at : ℕ) (f source here last : Found) (suffix : List FunId) → IsTrail g s
    → slice_get s.found.items at ≡ Some f → 0 < at → slice_get s.found.items f.from ≡ Some source → slice_get s.found.items f.from ≡ Some here
    → Steps g f.function (reverse suffix) last.function
    → Steps g here.function (reverse (suffix ++ record { 0 = source.function } ∷ [])) last.function
one_step g s at f source here last suffix trails e more is_source is_here steps =
    let l = trails.link at f e more in
    let same : source ≡ here = one_element s.found.items f.from source here is_source is_here in
    let from : l.source ≡ here = one_element s.found.items f.from l.source here l.is_there is_here in
    let turned : reverse (suffix ++ record { 0 = source.function } ∷ []) ≡ record { 0 = source.function } ∷ reverse suffix =
    reverse-append suffix (record { 0 = source.function } ∷ []) in
    subst (λ (x : List FunId). Steps g here.function x last.function) (sym turned)
    (ap (λ (x : Found). x.function) same, f.function, subst (λ (x : Found). Edge g x.function f.function) from l.edge, steps)
