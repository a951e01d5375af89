-- The levels of the components up to one more.
use Rattle.std.proofs.Common.{◌≡◌, ◌≢◌, ℕ, zero, suc, ◌+◌, ◌<◌, ◌≤◌, ◌⊎◌, inl, inr, Bool, true, false, cond, List, [], ◌∷◌, length, replicate, Some, slice_get, slice_index, refl, ap, ◌∙◌, subst, arith}
use Rattle.cu_calculus.specs.declared.FunId.{FunId}
use Rattle.cu_lift.proofs.Edges.{as_many_targets, edge_mention, mention_edge}
use Rattle.cu_cycles.proofs.Places.{before_or_not, same_or_not, there, within}
use Rattle.cu_cycles.specs.Graph as graph
use Rattle.cu_cycles.specs.Components.{AreRanks}
use Rattle.cu_cycles.specs.Graph.{IsWhole, Reach}
use Rattle.cu_lift.specs.Inside.Levelling.{AreDemands, AreLevelsOn, AreRaised, IsCalm, LevelsTo, Mentioned, demand}
use Rattle.cu_lift.specs.Inside.MentionsOf.{MentionRows, targets_in}
use Rattle.cu_lift.specs.declared.mentions.Mention.{Mention}

pub past_end : (xs : List ℕ) (v : ℕ) → length xs ≤ v → slice_index xs v ≡ 0
past_end [] v h = refl
past_end (x ∷ xs) zero h = absurd (omega arith)
past_end (x ∷ xs) (suc v) h = past_end xs v (omega arith)

pub all_zero : (n v : ℕ) → slice_index (replicate n 0) v ≡ 0
all_zero zero v = refl
all_zero (suc n) zero = refl
all_zero (suc n) (suc v) = all_zero n v

-- levels fall along edges
pub reach_falls : (g : MentionRows) (levels : List ℕ) → AreLevelsOn g levels → (u w : ℕ) → Reach (targets_in g) u w → slice_index levels w ≤ slice_index levels u
reach_falls g levels are _ _ (graph.here u) = omega arith
reach_falls g levels are _ w (graph.there u v _ edge rest) =
    let m = edge_mention g u v edge in
    let more : slice_index levels w ≤ slice_index levels v = reach_falls g levels are v w rest in
    let allowed = are.allowed u m.0 m.1 in
    let at : slice_index levels m.0.function.0 ≡ slice_index levels v = ap (slice_index levels) m.2 in
    omega arith

replicate_length : (n : ℕ) → length {A = ℕ} (replicate n 0) ≡ n
replicate_length zero = refl
replicate_length (suc n) = ap suc (replicate_length n)

pub no_levels_yet : (g : MentionRows) (ranks : List ℕ) → LevelsTo g ranks 0 (replicate (length g) 0)
no_levels_yet g ranks = record {
  sized = replicate_length (length g);
  low = λ v x e. let none = all_zero (length g) v in omega arith;
  none = λ v x e h. all_zero (length g) v;
  allowed = λ u x m h e less. absurd (omega arith);
  least = λ others v are. let none = all_zero (length g) v in omega arith;
}

module _ (g : MentionRows) (ranks : List ℕ) (count r : ℕ) (levels new : List ℕ) (members : List FunId) (level : ℕ) (whole : IsWhole (targets_in g))
    (are : AreRanks (targets_in g) ranks count) (calm : IsCalm g ranks) (to : LevelsTo g ranks r levels) (demands : AreDemands g levels members level)
    (in_rank : (k : ℕ) (f : FunId) → slice_get members k ≡ Some f → slice_get ranks f.0 ≡ Some r)
    (all_in : (v : ℕ) → slice_get ranks v ≡ Some r → (k : ℕ) × (slice_get members k ≡ Some (record { 0 = v })))
    (raised : AreRaised members level levels new) where
  rank_of : (v : ℕ) → v < length (targets_in g) → (x : ℕ) × (slice_get ranks v ≡ Some x)
  rank_of v h = let size = are.sized in there ranks v (omega arith)

  target_rank : (u x : ℕ) (m : Mention) → Mentioned g u m → slice_get ranks u ≡ Some x
      → (t : ℕ) × (slice_get ranks m.function.0 ≡ Some t) × (t ≤ x)
  target_rank u x m h e =
      let edge = mention_edge g u m h in
      let t = rank_of m.function.0 (whole.within u m.function.0 edge) in
      (t.0, t.1, are.falling u m.function.0 x t.0 edge e t.1)

  not_same : (u : ℕ) (m : Mention) (t : ℕ) → Mentioned g u m → slice_get ranks u ≡ Some r → slice_get ranks m.function.0 ≡ Some t
      → m.collected ≡ true → t ≢ r
  not_same u m t h e d c same = calm.calm u r m h c e (d ∙ ap Some same)

  demand_low : (u : ℕ) (m : Mention) (b : Bool) → m.collected ≡ b → Mentioned g u m → slice_get ranks u ≡ Some r
      → slice_index levels m.function.0 + cond b 1 0 ≤ r
  demand_low u m true c h e =
      let t = target_rank u r m h e in
      let low = to.low m.function.0 t.0 t.1 in
      let less : t.0 ≤ r = t.2 in
      let other : t.0 ≢ r = not_same u m t.0 h e t.1 c in
      omega arith
  demand_low u m false c h e =
      let t = target_rank u r m h e in
      let low = to.low m.function.0 t.0 t.1 in
      let less : t.0 ≤ r = t.2 in
      omega arith

  level_low : level ≤ r
  level_low = by demands.attained
    where
      by : (level ≡ 0) ⊎ ((k : ℕ) × (f : FunId) × (m : Mention) × (slice_get members k ≡ Some f) × Mentioned g f.0 m × (demand levels m ≡ level)) → level ≤ r
      by (inl h) = omega arith
      by (inr h) =
          let low = demand_low h.1.0 h.2 h.2.collected refl h.4 (in_rank h.0 h.1 h.3) in
          let is : demand levels h.2 ≡ level = h.5 in
          omega arith

  value : (v x : ℕ) → slice_get ranks v ≡ Some x
      → ((x ≡ r) × (slice_index new v ≡ level)) ⊎ ((x ≢ r) × (slice_index new v ≡ slice_index levels v))
  value v x e = by (same_or_not x r)
    where
      by : (x ≡ r) ⊎ (x ≢ r) → ((x ≡ r) × (slice_index new v ≡ level)) ⊎ ((x ≢ r) × (slice_index new v ≡ slice_index levels v))
      by (inl same) = let at = all_in v (e ∙ ap Some same) in inl (same, raised.raised at.0 (record { 0 = v }) at.1)
      by (inr other) = inr (other, raised.others v (λ k f d is. let rank : slice_get ranks v ≡ Some r = subst (λ (n : ℕ). slice_get ranks n ≡ Some r) is (in_rank k f d) in let both : x ≡ r = cc in other both))

  low : (v x : ℕ) → slice_get ranks v ≡ Some x → slice_index new v ≤ x
  low v x e = elim (value v x e) [
    | inl h ↦ let same : x ≡ r = h.0 in let is : slice_index new v ≡ level = h.1 in let under = level_low in omega arith
    | inr h ↦ let is : slice_index new v ≡ slice_index levels v = h.1 in let under = to.low v x e in omega arith
  ]

  none : (v x : ℕ) → slice_get ranks v ≡ Some x → r + 1 ≤ x → slice_index new v ≡ 0
  none v x e high = elim (value v x e) [
    | inl h ↦ let same : x ≡ r = h.0 in absurd (omega arith)
    | inr h ↦ let more : r ≤ x = omega arith in h.1 ∙ to.none v x e more
  ]

  stays_within : (u : ℕ) (m : Mention) (b : Bool) (t : ℕ) → m.collected ≡ b → Mentioned g u m → slice_get ranks u ≡ Some r
      → slice_get ranks m.function.0 ≡ Some t → t ≡ r → level + cond b 1 0 ≤ level
  stays_within u m true t c h e d same = absurd (not_same u m t h e d c same)
  stays_within u m false t c h e d same = omega arith

  allowed : (u x : ℕ) (m : Mention) → Mentioned g u m → slice_get ranks u ≡ Some x → x < r + 1 → demand new m ≤ slice_index new u
  allowed u x m h e less = by (value u x e) (value m.function.0 t.0 t.1)
    where
      t : (t : ℕ) × (slice_get ranks m.function.0 ≡ Some t) × (t ≤ x)
      t = target_rank u x m h e

      by : ((x ≡ r) × (slice_index new u ≡ level)) ⊎ ((x ≢ r) × (slice_index new u ≡ slice_index levels u))
          → ((t.0 ≡ r) × (slice_index new m.function.0 ≡ level)) ⊎ ((t.0 ≢ r) × (slice_index new m.function.0 ≡ slice_index levels m.function.0))
          → demand new m ≤ slice_index new u
      by (inl p) (inl q) =
          let here = stays_within u m m.collected t.0 refl h (e ∙ ap Some p.0) t.1 q.0 in
          let one : slice_index new u ≡ level = p.1 in
          let two : slice_index new m.function.0 ≡ level = q.1 in
          omega arith
      by (inl p) (inr q) =
          let at = all_in u (e ∙ ap Some p.0) in
          let bound = demands.bound at.0 (record { 0 = u }) m at.1 h in
          let one : slice_index new u ≡ level = p.1 in
          let two : slice_index new m.function.0 ≡ slice_index levels m.function.0 = q.1 in
          omega arith
      by (inr p) (inl q) =
          let under : t.0 ≤ x = t.2 in let same : t.0 ≡ r = q.0 in let other : x ≢ r = p.0 in absurd (omega arith)
      by (inr p) (inr q) =
          let other : x ≢ r = p.0 in
          let old = to.allowed u x m h e (omega arith) in
          let one : slice_index new u ≡ slice_index levels u = p.1 in
          let two : slice_index new m.function.0 ≡ slice_index levels m.function.0 = q.1 in
          omega arith

  level_least : (others : List ℕ) (v : ℕ) → AreLevelsOn g others → slice_get ranks v ≡ Some r → level ≤ slice_index others v
  level_least others v on e = by demands.attained
    where
      by : (level ≡ 0) ⊎ ((k : ℕ) × (f : FunId) × (m : Mention) × (slice_get members k ≡ Some f) × Mentioned g f.0 m × (demand levels m ≡ level))
          → level ≤ slice_index others v
      by (inl h) = omega arith
      by (inr h) =
          let is : demand levels h.2 ≡ level = h.5 in
          let under = to.least others h.2.function.0 on in
          let allowed_there = on.allowed h.1.0 h.2 h.4 in
          let falls = reach_falls g others on v h.1.0 (are.alike v h.1.0 r e (in_rank h.0 h.1 h.3)) in
          omega arith

  least : (others : List ℕ) (v : ℕ) → AreLevelsOn g others → slice_index new v ≤ slice_index others v
  least others v on = by (before_or_not v (length (targets_in g)))
    where
      known : (x : ℕ) → slice_get ranks v ≡ Some x → slice_index new v ≤ slice_index others v
      known x e = elim (value v x e) [
        | inl h ↦ let is : slice_index new v ≡ level = h.1 in let under = level_least others v on (e ∙ ap Some h.0) in omega arith
        | inr h ↦ let is : slice_index new v ≡ slice_index levels v = h.1 in let under = to.least others v on in omega arith
      ]

      by : (v < length (targets_in g)) ⊎ (length (targets_in g) ≤ v) → slice_index new v ≤ slice_index others v
      by (inl low) = let x = rank_of v low in known x.0 x.1
      by (inr high) =
          let size : length new ≡ length g = raised.sized ∙ to.sized in
          let many : length (targets_in g) ≡ length g = as_many_targets g in
          let nothing = past_end new v (omega arith) in
          omega arith

  pub levels_step : LevelsTo g ranks (r + 1) new
  levels_step = record {
    sized = raised.sized ∙ to.sized;
    low = low;
    none = none;
    allowed = allowed;
    least = least;
  }

pub all_levels : (g : MentionRows) (ranks : List ℕ) (count : ℕ) (levels : List ℕ) → AreRanks (targets_in g) ranks count → LevelsTo g ranks count levels → AreLevelsOn g levels
all_levels g ranks count levels are to = record {
  each = to.sized;
  allowed = λ u m h.
      let size : length ranks ≡ length g = are.sized ∙ as_many_targets g in
      let low = within g u h.row h.is_row in
      let x = there ranks u (omega arith) in
      to.allowed u x.0 m h x.1 (are.below u x.0 x.1);
}

-- the levels so far are at most as many as the functions
pub all_below : (g : MentionRows) (ranks : List ℕ) (count r : ℕ) (levels : List ℕ) → AreRanks (targets_in g) ranks count → LevelsTo g ranks r levels
    → (v : ℕ) → slice_index levels v ≤ length levels
all_below g ranks count r levels are to v = by (before_or_not v (length g))
  where
    size : length ranks ≡ length g
    size = are.sized ∙ as_many_targets g

    as_many : length levels ≡ length g
    as_many = to.sized

    known : (x : (x : ℕ) × (slice_get ranks v ≡ Some x)) → slice_index levels v ≤ length levels
    known x =
        let low = to.low v x.0 x.1 in let less = are.below v x.0 x.1 in let few : count ≤ length g = subst (λ (n : ℕ). count ≤ n) (as_many_targets g) are.few in omega (arith, size, as_many)

    by : (v < length g) ⊎ (length g ≤ v) → slice_index levels v ≤ length levels
    by (inl low) = known (there ranks v (omega (arith, size)))
    by (inr high) = let none = past_end levels v (omega (arith, as_many)) in omega arith
