-- The set calls that stay in their components, found one after another.
use Rattle.std.proofs.Common.{◌≡◌, ◌≢◌, ℕ, zero, suc, ◌+◌, ◌<◌, ◌≤◌, ◌⊎◌, inl, inr, true, List, length, replicate, set, Option, None, Some, slice_get, refl, ap, sym, ◌∙◌, subst, arith}
use Rattle.std.proofs.Math.ListN.{length-set}
use Rattle.std.specs.declared.alloc.Global.{Global}
use Rattle.std.specs.declared.vec.Vec.{Vec}
use Rattle.cu_cycles.proofs.Places.{before_or_not, one_element, set_cases}
use Rattle.cu_lift.specs.Inside.Levelling.{AreCalls, Collects, IsCall, Mentioned}
use Rattle.cu_lift.specs.Inside.MentionsOf.{MentionRows}
use Rattle.cu_lift.specs.declared.mentions.Mention.{Mention}
use Rattle.cu_lift.specs.declared.set_levels.Call.{Call}

no_call : (n r : ℕ) (call : Call) → slice_get (replicate n None) r ≡ Some (Some call) → ⊥
no_call zero r call e = cc
no_call (suc n) zero call e = cc
no_call (suc n) (suc r) call e = no_call n r call e

none_length : (n : ℕ) → length (replicate {A = Option Call} n None) ≡ n
none_length zero = refl
none_length (suc n) = ap suc (none_length n)

pub calls_first : (g : MentionRows) (ranks : List ℕ) (count : ℕ) → AreCalls g ranks count 0 (replicate count None)
calls_first g ranks count = record {
  sized = none_length count;
  some = λ r call e. absurd (no_call count r call e);
  none = λ u r m less h c e d f. absurd (omega arith);
}

module _ (g : MentionRows) (ranks : List ℕ) (count n r : ℕ) (calls : List (Option Call)) (are : AreCalls g ranks count n calls)
    (is_rank : slice_get ranks n ≡ Some r) where
  pub calls_found : (call : Call) → IsCall g ranks r call → AreCalls g ranks count (n + 1) (set calls r (Some call))
  calls_found call is = record {
    sized = length-set calls r (Some call) ∙ are.sized;
    some = λ s other e. by s other (set_cases calls r s (Some call) (Some other) e);
    none = λ u s m less h c e d f. no u s m less h c e d (set_cases calls r s (Some call) None f);
  }
    where
      by : (s : ℕ) (other : Call) → ((s ≡ r) × (Some call ≡ Some other)) ⊎ ((s ≢ r) × (slice_get calls s ≡ Some (Some other))) → IsCall g ranks s other
      by s other (inl h) =
          let some : Some call ≡ Some other = h.1 in
          let same : call ≡ other = cc in
          subst (λ (k : ℕ). IsCall g ranks k other) (sym h.0) (subst (λ (x : Call). IsCall g ranks r x) same is)
      by s other (inr h) = are.some s other h.1

      no : (u s : ℕ) (m : Mention) → u < n + 1 → Mentioned g u m → m.collected ≡ true → slice_get ranks u ≡ Some s → slice_get ranks m.function.0 ≡ Some s
          → ((s ≡ r) × (Some call ≡ None)) ⊎ ((s ≢ r) × (slice_get calls s ≡ Some None)) → ⊥
      no u s m less h c e d (inl k) = let some : Some call ≡ None = k.1 in cc
      no u s m less h c e d (inr k) = elim (before_or_not u n) [
        | inl under ↦ are.none u s m under h c e d k.1
        | inr over ↦
            let at : u ≡ n = omega arith in
            let rank : slice_get ranks n ≡ Some s = subst (λ (x : ℕ). slice_get ranks x ≡ Some s) at e in
            let same : s ≡ r = cc in
            k.0 same
      ]

  pub calls_not : (row : List Mention) → (v : Vec Mention Global) × (slice_get g n ≡ Some v) × (v.items ≡ row)
      → ((f : ℕ) → Collects ranks row r f → ⊥) → AreCalls g ranks count (n + 1) calls
  calls_not row is not = record {
    sized = are.sized;
    some = are.some;
    none = λ u s m less h c e d f. elim (before_or_not u n) [
      | inl under ↦ are.none u s m under h c e d f
      | inr over ↦
          let at : u ≡ n = omega arith in
          let rank : slice_get ranks n ≡ Some s = subst (λ (x : ℕ). slice_get ranks x ≡ Some s) at e in
          let same : s ≡ r = cc in
          let its_row : slice_get g n ≡ Some h.row = subst (λ (x : ℕ). slice_get g x ≡ Some h.row) at h.is_row in
          let one : h.row ≡ is.0 = one_element g n h.row is.0 its_row is.1 in
          not m.function.0 (record {
            place = h.place;
            mention = m;
            is_there = subst (λ (x : List Mention). slice_get x h.place ≡ Some m) (ap (λ (v : Vec Mention Global). v.items) one ∙ is.2) h.is_there;
            collected = c;
            function = refl;
            is_rank = d ∙ ap Some same;
          })
    ];
  }

pub call_of : (g : MentionRows) (ranks : List ℕ) (n r f : ℕ) (row : List Mention) → slice_get ranks n ≡ Some r
    → (v : Vec Mention Global) × (slice_get g n ≡ Some v) × (v.items ≡ row) → Collects ranks row r f
    → IsCall g ranks r (record { caller = n; collected = f })
call_of g ranks n r f row is_rank is c = record {
  mention = c.mention;
  mentioned = record {
    row = is.0;
    is_row = is.1;
    place = c.place;
    is_there = subst (λ (x : List Mention). slice_get x c.place ≡ Some c.mention) (sym is.2) c.is_there;
  };
  collected = c.collected;
  function = c.function;
  caller_rank = is_rank;
  collected_rank = c.is_rank;
}

-- no function stands after the last
pub calls_until : (g : MentionRows) (ranks : List ℕ) (count n m : ℕ) (calls : List (Option Call)) → m ≤ n → AreCalls g ranks count n calls
    → AreCalls g ranks count m calls
calls_until g ranks count n m calls less are = record {
  sized = are.sized;
  some = are.some;
  none = λ u r mention low h c e d f. are.none u r mention (omega arith) h c e d f;
}
