-- Rounds of the search for the local functions that capture a variable.
use Rattle.std.proofs.Common.{◌≡◌, ℕ, zero, suc, ◌+◌, ◌<◌, ◌≤◌, ◌⊎◌, inl, inr, Bool, true, false, cond, nat_eq, List, [], ◌∷◌, ◌++◌, Some, drop, length, set, replicate, slice_get, take, refl, ap, sym, ◌∙◌, subst, arith}
use Rattle.std.proofs.Math.ListN.{length-set}
use Rattle.cu_kernel.specs.Captures as captures
use Rattle.cu_kernel.specs.Captures.{Captures, is_local, no_head, rules_use}
use Rattle.cu_kernel.specs.LocalKernel.{LocalFunction}
use Rattle.cu_parts.proofs.Tests.{either}
use Rattle.cu_parts.proofs.UseLemmas.{none_counts, one_counts, rules_use_more, split_rules}
use Rattle.cu_parts.specs.Inside.Capturing.{AreCapturing, AreClosed, AreSound, Meeting, Round, is_met, meets, met_at, stays, unmet}

-- ---- lists of Bools

met_set : (met : List Bool) (k j : ℕ) → met_at (set met k true) j ≡ true → (j ≡ k) ⊎ (met_at met j ≡ true)
met_set [] k j h = inr h
met_set (m ∷ met) zero zero h = inl refl
met_set (m ∷ met) zero (suc j) h = inr h
met_set (m ∷ met) (suc k) zero h = inr h
met_set (m ∷ met) (suc k) (suc j) h = elim (met_set met k j h) [ inl e ↦ inl (ap (λ n. suc n) e) | inr e ↦ inr e ]

unmet_set : (met : List Bool) (k : ℕ) → slice_get met k ≡ Some false → unmet (set met k true) + 1 ≡ unmet met
unmet_set [] k e = let absent : ⊥ = cc in absurd absent
unmet_set (m ∷ met) zero e = let is : m ≡ false = cc in rw is (omega arith)
unmet_set (m ∷ met) (suc k) e = let rest = unmet_set met k e in omega (arith, rest)

none_met : (n k : ℕ) → met_at (replicate n false) k ≡ false
none_met zero k = refl
none_met (suc n) zero = refl
none_met (suc n) (suc k) = none_met n k

-- ---- rounds

pub no_round : (locals : List LocalFunction) (v : ℕ) (met : List Bool) (place : ℕ) → length locals ≤ place → Round locals v place met met false
no_round locals v met place end = record {
  sized = refl;
  sound = λ sound. sound;
  closed = λ e. (refl, λ k f low at uses. absurd (past locals k f at (omega arith)));
  fewer = omega arith;
  less = λ e. let absent : ⊥ = cc in absurd absent;
}
  where
    past : (locals : List LocalFunction) (k : ℕ) (f : LocalFunction) → slice_get locals k ≡ Some f → length locals ≤ k → ⊥
    past [] k f e low = cc
    past (g ∷ locals) zero f e low = omega arith
    past (g ∷ locals) (suc k) f e low = past locals k f e (omega arith)

captures_by : (locals : List LocalFunction) (v k : ℕ) (met : List Bool) (f : LocalFunction) → AreSound locals v met → slice_get locals k ≡ Some f
    → rules_use (is_met met) v f.rules ≡ true → Captures locals k v
captures_by locals v k met f sound e uses = elim (split_rules met v f.rules uses) [
  | inl own ↦ captures.own k v f e own
  | inr call ↦ captures.through k call.0 v f e call.2 (sound call.0 call.1)
]

still_sound : (locals : List LocalFunction) (v k : ℕ) (met : List Bool) → AreSound locals v met → Captures locals k v → AreSound locals v (set met k true)
still_sound locals v k met sound c j h = elim (met_set met k j h) [
  | inl e ↦ subst (λ (n : ℕ). Captures locals n v) (sym e) c
  | inr old ↦ sound j old
]

low_or_here : (k place : ℕ) → place ≤ k → (suc place ≤ k) ⊎ (place ≡ k)
low_or_here k place low = elim (either (nat_eq place k)) [ inl e ↦ inr (search (arith, e)) | inr e ↦ inl (search (arith, e, low)) ]

-- one more local function, of a place below
pub next_round : (locals : List LocalFunction) (v place : ℕ) (old met new : List Bool) (more first : Bool) → Round locals v (suc place) old met more
    → Meeting locals v place met new first → Round locals v place old new (cond more true first)
next_round locals v place old met new true first round (stays kept same uses) = record {
  sized = ap length same ∙ round.sized;
  sound = λ sound. subst (AreSound locals v) (sym same) (round.sound sound);
  closed = λ e. let absent : ⊥ = cc in absurd absent;
  fewer = let f = round.fewer in let e = ap unmet same in omega (arith, e, f);
  less = λ e. let l = round.less refl in let s = ap unmet same in omega (arith, l, s);
}
next_round locals v place old met new false first round (stays kept same uses) = record {
  sized = ap length same ∙ round.sized;
  sound = λ sound. subst (AreSound locals v) (sym same) (round.sound sound);
  closed = λ e. let before = round.closed refl in (
    same ∙ before.0,
    subst (λ (ms : List Bool). AreClosed locals v ms place) (sym same)
        (λ k f low at it. elim (low_or_here k place low) [
          | inl above ↦ before.1 k f above at it
          | inr here ↦
              subst (λ (n : ℕ). met_at met n ≡ true) here
              (uses f (subst (λ (n : ℕ). slice_get locals n ≡ Some f) (sym here) at) it)
        ]),
  );
  fewer = let f = round.fewer in let e = ap unmet same in omega (arith, e, f);
  less = λ e. let absent : ⊥ = cc in absurd absent;
}
next_round locals v place old met new more first round (meets yes_first was is its) =
    let shorter : unmet new + 1 ≡ unmet met = ap (λ ms. unmet ms + 1) is ∙ unmet_set met place was in
    let less : unmet new < unmet old = let f = round.fewer in omega (arith, f, shorter) in record {
      sized = ap length is ∙ length-set met place true ∙ round.sized;
      sound = λ sound.
          subst (AreSound locals v) (sym is)
          (still_sound locals v place met (round.sound sound) (captures_by locals v place met its.0 (round.sound sound) its.1 its.2));
      closed = λ e. absurd (never more first yes_first e);
      fewer = omega (arith, less);
      less = λ e. less;
    }
  where
    never : (more first : Bool) → first ≡ true → cond more true first ≡ false → ⊥
    never true first p q = cc
    never false first p q = cc

-- ---- the end

complete : (locals : List LocalFunction) (v : ℕ) (met : List Bool) → AreClosed locals v met 0 → (k : ℕ) → Captures locals k v → met_at met k ≡ true
complete locals v met closed _ (captures.own k _ f e it) =
    closed k f (omega arith) e (rules_use_more no_head (is_met met) (none_counts (is_met met)) v f.rules it)
complete locals v met closed _ (captures.through k h _ f e it c) =
    closed k f (omega arith) e
    (rules_use_more (is_local h) (is_met met) (one_counts met h (complete locals v met closed h c)) v f.rules it)

pub are_capturing : (locals : List LocalFunction) (v : ℕ) (met : List Bool) → AreSound locals v met → AreClosed locals v met 0 → AreCapturing locals v met
are_capturing locals v met sound closed k = (sound k, complete locals v met closed k)

pub none_sound : (locals : List LocalFunction) (v n : ℕ) (met : List Bool) → met ≡ replicate n false → AreSound locals v met
none_sound locals v n met is k h =
    let bad : true ≡ false = sym h ∙ ap (λ ms. met_at ms k) is ∙ none_met n k in let absent : ⊥ = cc in absurd absent

-- a local function that is met for the first time
pub first_met : (locals : List LocalFunction) (v k : ℕ) (met : List Bool) (f : LocalFunction) → slice_get met k ≡ Some false → slice_get locals k ≡ Some f
    → rules_use (is_met met) v f.rules ≡ true → Meeting locals v k met (set met k true) true
first_met locals v k met f was at uses = meets refl was refl (f, at, uses)

-- whether there was more already, or is now
pub more_already : (more first : Bool) → more ≡ true → cond more true first ≡ more
more_already true first h = refl
more_already false first h = let absent : ⊥ = cc in absurd absent

pub more_now : (more first : Bool) → more ≡ false → cond more true first ≡ first
more_now true first h = let absent : ⊥ = cc in absurd absent
more_now false first h = refl

-- a slice that was written back as a whole
prefix : (xs zs : List Bool) → take (length xs) (xs ++ zs) ≡ xs
prefix [] zs = refl
prefix (x ∷ xs) zs = ap (λ ys. x ∷ ys) (prefix xs zs)

pub written : (n : ℕ) (xs ys : List Bool) → n ≡ length xs → take n (xs ++ drop (length xs) ys) ≡ xs
written n xs ys size = ap (λ k. take k (xs ++ drop (length xs) ys)) size ∙ prefix xs (drop (length xs) ys)
