-- A search for the local functions that a variable meets.
use Rattle.std.proofs.Common.{◌≡◌, ◌≢◌, ℕ, zero, suc, ◌+◌, ◌<◌, ◌≤◌, ◌⊎◌, inl, inr, Bool, true, false, List, [], ◌∷◌, ◌++◌, length, length-append, replicate, set, slice_get, take, Option, None, Some, IsSome, refl, ap, sym, ◌∙◌, subst, arith}
use Rattle.std.proofs.Math.ListN.{length-set}
use Rattle.std.specs.Option.{option_to_list}
use Rattle.cu_lift.proofs.Elements.{first_or_rest, prefix_or_new, in_first, in_prefix, in_last, none_in}
use Rattle.cu_lift.proofs.Noting.{first_or_next}
use Rattle.cu_cycles.proofs.Places.{before_or_not, nothing_after, one_element, same_or_not, set_cases, set_elsewhere, set_there, within}
use Rattle.cu_lift.proofs.Trails.{unmet_set}
use Rattle.cu_lift.specs.Groups.{IsIn}
use Rattle.cu_lift.specs.Inside.Capturing as capturing
use Rattle.cu_lift.specs.Inside.Capturing.{AreMet, AreSeeded, AreUsers, IsSettled, Meets, Met, Owns, Spreads, Stays, left}
use Rattle.cu_lift.specs.Inside.Ordering.{IsAt, Row}
use Rattle.cu_lift.specs.Inside.Trail.{unmet}
use Rattle.cu_lift.specs.declared.captures.Local.{Local}
use Rattle.cu_lift.specs.declared.captures.Spreading.{Spreading}

-- ---- meeting

pub met_now : (k : ℕ) (old new : Spreading) → Met k old new → slice_get new.met.items k ≡ Some true
met_now k old new (capturing.again e met pending) = subst (λ (xs : List Bool). slice_get xs k ≡ Some true) (sym met) e
met_now k old new (capturing.first e met pending) =
    subst (λ (xs : List Bool). slice_get xs k ≡ Some true) (sym met) (set_there old.met.items k true false e)

pub met_stays : (k : ℕ) (old new : Spreading) → Met k old new → Stays old new
met_stays k old new (capturing.again e met pending) j h = subst (λ (xs : List Bool). slice_get xs j ≡ Some true) (sym met) h
met_stays k old new (capturing.first e met pending) j h =
    subst (λ (xs : List Bool). slice_get xs j ≡ Some true) (sym met) (elim (same_or_not j k) [
      | inl same ↦ subst (λ (n : ℕ). slice_get (set old.met.items k true) n ≡ Some true) (sym same) (set_there old.met.items k true false e)
      | inr other ↦ set_elsewhere old.met.items k j true other ∙ h
    ])

pub met_left : (k : ℕ) (old new : Spreading) → Met k old new → left new ≤ left old
met_left k old new (capturing.again e met pending) =
    let a : unmet new.met.items ≡ unmet old.met.items = ap unmet met in
    let b : length new.pending.items ≡ length old.pending.items = ap length pending in
    omega arith
met_left k old new (capturing.first e met pending) =
    let a : unmet new.met.items ≡ unmet (set old.met.items k true) = ap unmet met in
    let less : unmet (set old.met.items k true) + 1 ≡ unmet old.met.items = unmet_set old.met.items k e in
    let b : length new.pending.items ≡ length old.pending.items + 1 = ap length pending ∙ length-append old.pending.items (k ∷ []) in
    omega arith

settled_stays : (locals : List Local) (x : ℕ) (old new : Spreading) (h : ℕ) → Stays old new → IsSettled locals x old.met.items h
    → IsSettled locals x new.met.items h
settled_stays locals x old new h stays settled k l e c free = stays k (settled k l e c free)

pub spreads_met : (locals : List Local) (x : ℕ) (hand : List ℕ) (k : ℕ) (old new : Spreading) → Spreads locals x hand old → Meets locals x k → Met k old new
    → Spreads locals x hand new
spreads_met locals x hand k old new s meets (capturing.again e met pending) = record {
  sized = ap length met ∙ s.sized;
  sound = λ j h. s.sound j (subst (λ (xs : List Bool). slice_get xs j ≡ Some true) met h);
  pending = λ j h.
      subst (λ (xs : List Bool). slice_get xs j ≡ Some true) (sym met) (s.pending j (subst (λ (xs : List ℕ). IsIn xs j) pending h));
  settled = λ j h. elim (s.settled j (subst (λ (xs : List Bool). slice_get xs j ≡ Some true) met h)) [
    | inl p ↦ inl (subst (λ (xs : List ℕ). IsIn xs j) (sym pending) p)
    | inr q ↦ inr (elim q [
      | inl p ↦ inl p
      | inr p ↦ inr (settled_stays locals x old new j (met_stays k old new (capturing.again e met pending)) p)
    ])
  ];
}
spreads_met locals x hand k old new s meets (capturing.first e met pending) = record {
  sized = ap length met ∙ length-set old.met.items k true ∙ s.sized;
  sound = λ j h. sound j (set_cases old.met.items k j true true (subst (λ (xs : List Bool). slice_get xs j ≡ Some true) met h));
  pending = λ j h. waits j (prefix_or_new j k old.pending.items (subst (λ (xs : List ℕ). IsIn xs j) pending h));
  settled = λ j h. settled j (set_cases old.met.items k j true true (subst (λ (xs : List Bool). slice_get xs j ≡ Some true) met h));
}
  where
    stays : Stays old new
    stays = met_stays k old new (capturing.first e met pending)

    sound : (j : ℕ) → ((j ≡ k) × (true ≡ true)) ⊎ ((j ≢ k) × (slice_get old.met.items j ≡ Some true)) → Meets locals x j
    sound j (inl p) = subst (λ (n : ℕ). Meets locals x n) (sym p.0) meets
    sound j (inr p) = s.sound j p.1

    waits : (j : ℕ) → IsIn old.pending.items j ⊎ (k ≡ j) → slice_get new.met.items j ≡ Some true
    waits j (inl p) = stays j (s.pending j p)
    waits j (inr same) = subst (λ (n : ℕ). slice_get new.met.items n ≡ Some true) same (met_now k old new (capturing.first e met pending))

    on : (j : ℕ) → IsIn old.pending.items j ⊎ (IsIn hand j ⊎ IsSettled locals x old.met.items j)
        → IsIn new.pending.items j ⊎ (IsIn hand j ⊎ IsSettled locals x new.met.items j)
    on j (inl p) = inl (subst (λ (xs : List ℕ). IsIn xs j) (sym pending) (in_prefix j old.pending.items (k ∷ []) p))
    on j (inr (inl p)) = inr (inl p)
    on j (inr (inr p)) = inr (inr (settled_stays locals x old new j stays p))

    settled : (j : ℕ) → ((j ≡ k) × (true ≡ true)) ⊎ ((j ≢ k) × (slice_get old.met.items j ≡ Some true))
        → IsIn new.pending.items j ⊎ (IsIn hand j ⊎ IsSettled locals x new.met.items j)
    settled j (inl p) =
        inl (subst (λ (xs : List ℕ). IsIn xs j) (sym pending) (subst (λ (n : ℕ). IsIn (old.pending.items ++ k ∷ []) n) (sym p.0) (in_last k old.pending.items)))
    settled j (inr p) = on j (s.settled j p.1)

-- ---- those that own the variable

pub seeds_next : (locals : List Local) (x n : ℕ) (l : Local) (old new : Spreading) → slice_get locals n ≡ Some l → Owns l x → Spreads locals x [] old
    → AreSeeded locals x n old → Met n old new → Spreads locals x [] new × AreSeeded locals x (n + 1) new
seeds_next locals x n l old new e owns s seeded met = (
  spreads_met locals x [] n old new s (capturing.own n l e owns) met,
  λ k m less d its. elim (before_or_not k n) [
    | inl under ↦ met_stays n old new met k (seeded k m under d its)
    | inr over ↦
        let same : n ≡ k = omega arith in
        subst (λ (j : ℕ). slice_get new.met.items j ≡ Some true) same (met_now n old new met)
  ],
)

pub seeds_skip : (locals : List Local) (x n : ℕ) (l : Local) (s : Spreading) → slice_get locals n ≡ Some l → (Owns l x → ⊥) → AreSeeded locals x n s
    → AreSeeded locals x (n + 1) s
seeds_skip locals x n l s e none seeded k m less d its = elim (before_or_not k n) [
  | inl under ↦ seeded k m under d its
  | inr over ↦
      let same : k ≡ n = omega arith in
      let alike : m ≡ l = one_element locals n m l (subst (λ (j : ℕ). slice_get locals j ≡ Some m) same d) e in
      absurd (none (subst (λ (y : Local). Owns y x) alike its))
]

pub seeds_all : (locals : List Local) (x n : ℕ) (s : Spreading) → length locals ≤ n → AreSeeded locals x n s → AreSeeded locals x (length locals) s
seeds_all locals x n s end seeded k m less d its = seeded k m (omega arith) d its

-- ---- the users of one that is met

pub user_meets : (locals : List Local) (users : List Row) (x callee k : ℕ) (l : Local) (s : Spreading) (hand : List ℕ) → AreUsers locals (length locals) users
    → Spreads locals x hand s → slice_get s.met.items callee ≡ Some true → IsAt users callee k → slice_get locals k ≡ Some l
    → (IsIn l.binds.keys x → ⊥) → Meets locals x k
user_meets locals users x callee k l s hand are spreads met at e free =
    let its = are.calls callee k at in
    let calls = subst (λ (y : Local). IsIn y.calls.items callee) (one_element locals k its.0 l its.1 e) its.2 in
    capturing.through k callee l e calls free (spreads.sound callee met)

-- the first users are met
abbrev pub AreWoken : List Local → ℕ → List ℕ → ℕ → Spreading → Type 0
AreWoken locals x row n s = (k : ℕ) (l : Local) → IsIn (take n row) k → slice_get locals k ≡ Some l → (IsIn l.binds.keys x → ⊥)
    → slice_get s.met.items k ≡ Some true

pub wakes_next : (locals : List Local) (x : ℕ) (row : List ℕ) (n u : ℕ) (old new : Spreading) → slice_get row n ≡ Some u → Met u old new
    → AreWoken locals x row n old → AreWoken locals x row (n + 1) new
wakes_next locals x row n u old new at met woken k l h e free = elim (first_or_next row n u k at h) [
  | inl early ↦ met_stays u old new met k (woken k l early e free)
  | inr same ↦ subst (λ (j : ℕ). slice_get new.met.items j ≡ Some true) same (met_now u old new met)
]

pub wakes_skip : (locals : List Local) (x : ℕ) (row : List ℕ) (n u : ℕ) (m : Local) (s : Spreading) → slice_get row n ≡ Some u → slice_get locals u ≡ Some m
    → IsIn m.binds.keys x → AreWoken locals x row n s → AreWoken locals x row (n + 1) s
wakes_skip locals x row n u m s at its bound woken k l h e free = elim (first_or_next row n u k at h) [
  | inl early ↦ woken k l early e free
  | inr same ↦
      let alike : m ≡ l = one_element locals k m l (subst (λ (j : ℕ). slice_get locals j ≡ Some m) same its) e in
      absurd (free (subst (λ (y : Local). IsIn y.binds.keys x) alike bound))
]

pub spreads_done : (locals : List Local) (users : List Row) (x callee : ℕ) (row : List ℕ) (s : Spreading) → AreUsers locals (length locals) users
    → callee < length locals → ((k : ℕ) → IsAt users callee k → IsIn row k)
    → ((k : ℕ) (l : Local) → IsIn row k → slice_get locals k ≡ Some l → (IsIn l.binds.keys x → ⊥) → slice_get s.met.items k ≡ Some true)
    → Spreads locals x (callee ∷ []) s → Spreads locals x [] s
spreads_done locals users x callee row s are low all woken spreads = record {
  sized = spreads.sized;
  sound = spreads.sound;
  pending = spreads.pending;
  settled = λ h e. by h (spreads.settled h e);
}
  where
    done : IsSettled locals x s.met.items callee
    done k l e calls free = woken k l (all k (are.all callee k l (within locals k l e) low e calls)) e free

    by : (h : ℕ) → IsIn s.pending.items h ⊎ (IsIn (callee ∷ []) h ⊎ IsSettled locals x s.met.items h)
        → IsIn s.pending.items h ⊎ (IsIn [] h ⊎ IsSettled locals x s.met.items h)
    by h (inl p) = inl p
    by h (inr (inl p)) = elim (first_or_rest h callee [] p) [
      | inl same ↦ inr (inr (subst (λ (n : ℕ). IsSettled locals x s.met.items n) same done))
      | inr rest ↦ absurd (none_in h rest)
    ]
    by h (inr (inr p)) = inr (inr p)

-- ---- one is taken

pub spreads_popped : (locals : List Local) (x c : ℕ) (old new : Spreading) → new.met.items ≡ old.met.items → old.pending.items ≡ new.pending.items ++ c ∷ []
    → Spreads locals x [] old → Spreads locals x (c ∷ []) new
spreads_popped locals x c old new met popped s = record {
  sized = ap length met ∙ s.sized;
  sound = λ j h. s.sound j (subst (λ (xs : List Bool). slice_get xs j ≡ Some true) met h);
  pending = λ j h.
      subst (λ (xs : List Bool). slice_get xs j ≡ Some true) (sym met)
      (s.pending j (subst (λ (xs : List ℕ). IsIn xs j) (sym popped) (in_prefix j new.pending.items (c ∷ []) h)));
  settled = λ j h. by j (s.settled j (subst (λ (xs : List Bool). slice_get xs j ≡ Some true) met h));
}
  where
    out : (j : ℕ) → IsIn new.pending.items j ⊎ (c ≡ j) → IsIn new.pending.items j ⊎ (IsIn (c ∷ []) j ⊎ IsSettled locals x new.met.items j)
    out j (inl p) = inl p
    out j (inr same) = inr (inl (subst (λ (n : ℕ). IsIn (c ∷ []) n) same (in_first c [])))

    by : (j : ℕ) → IsIn old.pending.items j ⊎ (IsIn [] j ⊎ IsSettled locals x old.met.items j)
        → IsIn new.pending.items j ⊎ (IsIn (c ∷ []) j ⊎ IsSettled locals x new.met.items j)
    by j (inl p) = out j (prefix_or_new j c new.pending.items (subst (λ (xs : List ℕ). IsIn xs j) popped p))
    by j (inr (inl p)) = absurd (none_in j p)
    by j (inr (inr p)) = inr (inr (subst (λ (xs : List Bool). IsSettled locals x xs j) (sym met) p))

pub popped_met : (locals : List Local) (x c : ℕ) (old new : List ℕ) (s : Spreading) → s.pending.items ≡ old → old ≡ new ++ c ∷ [] → Spreads locals x [] s
    → slice_get s.met.items c ≡ Some true
popped_met locals x c old new s is popped spreads =
    spreads.pending c (subst (λ (xs : List ℕ). IsIn xs c) (sym (is ∙ popped)) (in_last c new))

pub popped_left : (c : ℕ) (old new : Spreading) → new.met.items ≡ old.met.items → old.pending.items ≡ new.pending.items ++ c ∷ [] → left new < left old
popped_left c old new met popped =
    let a : unmet new.met.items ≡ unmet old.met.items = ap unmet met in
    let b : length old.pending.items ≡ length new.pending.items + 1 = ap length popped ∙ length-append new.pending.items (c ∷ []) in
    omega arith

-- ---- the start and the end

all_false : (n v : ℕ) → slice_get (replicate n false) v ≡ Some true → ⊥
all_false zero v e = cc
all_false (suc n) zero e = cc
all_false (suc n) (suc v) e = all_false n v e

false_length : (n : ℕ) → length (replicate n false) ≡ n
false_length zero = refl
false_length (suc n) = ap suc (false_length n)

pub spreads_first : (locals : List Local) (x : ℕ) (s : Spreading) → s.met.items ≡ replicate (length locals) false → s.pending.items ≡ [] → Spreads locals x [] s
spreads_first locals x s met pending = record {
  sized = ap length met ∙ false_length (length locals);
  sound = λ k h. absurd (all_false (length locals) k (subst (λ (xs : List Bool). slice_get xs k ≡ Some true) met h));
  pending = λ k h. absurd (none_in k (subst (λ (xs : List ℕ). IsIn xs k) pending h));
  settled = λ k h. absurd (all_false (length locals) k (subst (λ (xs : List Bool). slice_get xs k ≡ Some true) met h));
}

module _ (locals : List Local) (x : ℕ) (s : Spreading) (spreads : Spreads locals x [] s) (seeded : AreSeeded locals x (length locals) s)
    (done : s.pending.items ≡ []) where
  settled : (h : ℕ) → slice_get s.met.items h ≡ Some true → IsSettled locals x s.met.items h
  settled h e = by (spreads.settled h e)
    where
      by : IsIn s.pending.items h ⊎ (IsIn [] h ⊎ IsSettled locals x s.met.items h) → IsSettled locals x s.met.items h
      by (inl p) = absurd (none_in h (subst (λ (xs : List ℕ). IsIn xs h) done p))
      by (inr (inl p)) = absurd (none_in h p)
      by (inr (inr p)) = p

  all : (k : ℕ) → Meets locals x k → slice_get s.met.items k ≡ Some true
  all _ (capturing.own k l e owns) = seeded k l (within locals k l e) e owns
  all _ (capturing.through k h l e calls free meets) = settled h (all h meets) k l e calls free

  pub are_met : AreMet locals x s.met.items
  are_met = record { sized = spreads.sized; exact = λ k. (spreads.sound k, all k) }

pub popped_nothing : (r : Option ℕ) (n : ℕ) (old new : List ℕ) → old ≡ new ++ option_to_list r → (0 < n → IsSome r) → n ≡ length old
    → ((x : ℕ) → r ≡ Some x → ⊥) → (old ≡ []) × (new ≡ [])
popped_nothing (Some y) n old new whole some size none = absurd (none y refl)
popped_nothing None n old new whole some size none = by old whole size
  where
    empty : (xs : List ℕ) → n ≡ length xs → xs ≡ []
    empty [] e = refl
    empty (x ∷ xs) e = let is : false ≡ true = some (omega arith) in let absent : ⊥ = cc in absurd absent

    by : (old : List ℕ) → old ≡ new ++ [] → n ≡ length old → (old ≡ []) × (new ≡ [])
    by xs w e = let is = empty xs e in (is, nothing_after new ∙ sym w ∙ is)

pub spreads_empty : (locals : List Local) (x : ℕ) (old new : Spreading) → new.met.items ≡ old.met.items → old.pending.items ≡ [] → new.pending.items ≡ []
    → Spreads locals x [] old → Spreads locals x [] new
spreads_empty locals x old new met none empty s = record {
  sized = ap length met ∙ s.sized;
  sound = λ j h. s.sound j (subst (λ (xs : List Bool). slice_get xs j ≡ Some true) met h);
  pending = λ j h. absurd (none_in j (subst (λ (xs : List ℕ). IsIn xs j) empty h));
  settled = λ j h. by j (s.settled j (subst (λ (xs : List Bool). slice_get xs j ≡ Some true) met h));
}
  where
    by : (j : ℕ) → IsIn old.pending.items j ⊎ (IsIn [] j ⊎ IsSettled locals x old.met.items j)
        → IsIn new.pending.items j ⊎ (IsIn [] j ⊎ IsSettled locals x new.met.items j)
    by j (inl p) = absurd (none_in j (subst (λ (xs : List ℕ). IsIn xs j) none p))
    by j (inr (inl p)) = inr (inl p)
    by j (inr (inr p)) = inr (inr (subst (λ (xs : List Bool). IsSettled locals x xs j) (sym met) p))
