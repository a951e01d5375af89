-- What a derived set has.
use Rattle.std.proofs.Common.{◌≡◌, ◌≢◌, ℕ, zero, suc, ◌<◌, ◌⊎◌, inl, inr, Bool, true, false, List, [], ◌∷◌, Some, length, set, replicate, eqb, refl, ap, sym, subst, ◌∙◌, arith, eqb-true, eq-eqb, true≢false, get_or-set_same, get_or-set_other, length-set}
use Rattle.std.specs.Prelude.{slice_get, ◌&&◌, ◌||◌}
use Rattle.std.specs.List.{list_all, list_any}
use Rattle.std.proofs.lemmas.Option.{slice_get_within}
use Rattle.cu_peg.specs.Inside.Closure as closure
use Rattle.cu_peg.specs.Inside.Closure.{Derived, IsSaturated, MayJoin, holds, marked, unmarked}
use Rattle.cu_peg.specs.declared.closure.Condition.{Condition}

pub unmarked-set : (marks : List Bool) (n : ℕ) → n < length marks → marked marks n ≡ false → unmarked (set marks n true) < unmarked marks
unmarked-set [] n h e = absurd (omega arith)
unmarked-set (true ∷ marks) zero h e = absurd (true≢false e)
unmarked-set (false ∷ marks) zero h e = omega arith
unmarked-set (true ∷ marks) (suc n) h e = unmarked-set marks n (omega arith) e
unmarked-set (false ∷ marks) (suc n) h e = omega (arith, unmarked-set marks n (omega arith) e)

-- a number that is in a set is within it
pub marked_within : (marks : List Bool) (n : ℕ) → marked marks n ≡ true → n < length marks
marked_within [] n e = absurd (true≢false (sym e))
marked_within (mark ∷ marks) zero e = omega arith
marked_within (mark ∷ marks) (suc n) e = omega (arith, marked_within marks n e)

pub none_marked : (k n : ℕ) → marked (replicate k false) n ≡ true → ⊥
none_marked zero n e = true≢false (sym e)
none_marked (suc k) zero e = true≢false (sym e)
none_marked (suc k) (suc n) e = none_marked k n e

-- what a set with one more number has
pub marked-set : (marks : List Bool) (n q : ℕ) → marked (set marks n true) q ≡ true → (q ≡ n) ⊎ (marked marks q ≡ true)
marked-set marks n q e = by (eqb q n) refl
  where
    by : (b : Bool) → eqb q n ≡ b → (q ≡ n) ⊎ (marked marks q ≡ true)
    by true h = inl (eqb-true q n h)
    by false h =
        let other : q ≢ n = λ same. true≢false (sym (eq-eqb q n same) ∙ h) in
        inr (sym (get_or-set_other marks n q true false other) ∙ e)

pub set-marked : (marks : List Bool) (n q : ℕ) → n < length marks → marked marks q ≡ true → marked (set marks n true) q ≡ true
set-marked marks n q within e = by (eqb q n) refl
  where
    by : (b : Bool) → eqb q n ≡ b → marked (set marks n true) q ≡ true
    by true h = subst (λ (k : ℕ). marked (set marks n true) k ≡ true) (sym (eqb-true q n h)) (get_or-set_same marks n true false within)
    by false h =
        let other : q ≢ n = λ same. true≢false (sym (eq-eqb q n same) ∙ h) in
        get_or-set_other marks n q true false other ∙ e

-- A number stands in a list.
pub data Among (q : ℕ) : List ℕ → Type 0 where
  here : (ps : List ℕ) → Among q (q ∷ ps)
  there : (p : ℕ) (ps : List ℕ) → Among q ps → Among q (p ∷ ps)

pub both : (a b : Bool) → (a && b) ≡ true → (a ≡ true) × (b ≡ true)
both true b e = (refl, e)
both false b e = absurd (true≢false (sym e))

pub either : (a b : Bool) → (a || b) ≡ true → (a ≡ true) ⊎ (b ≡ true)
either true b e = inl refl
either false b e = inr e

pub or_right : (a b : Bool) → b ≡ true → (a || b) ≡ true
or_right true b e = refl
or_right false b e = e

pub all_pass : (test : ℕ → Bool) (q : ℕ) (ps : List ℕ) → list_all test ps ≡ true → Among q ps → test q ≡ true
all_pass test q _ e (here ps) = (both (test q) (list_all test ps) e).0
all_pass test q _ e (there p ps a) = all_pass test q ps (both (test p) (list_all test ps) e).1 a

pub all_from : (test : ℕ → Bool) (ps : List ℕ) → ((q : ℕ) → Among q ps → test q ≡ true) → list_all test ps ≡ true
all_from test [] h = refl
all_from test (p ∷ ps) h = rw (h p (here ps)) (all_from test ps (λ q a. h q (there p ps a)))

-- a number that passes
pub record Passes (test : ℕ → Bool) (ps : List ℕ) : Type 0 where
  pub number : ℕ
  pub among : Among number ps
  pub passes : test number ≡ true

pub some_passes : (test : ℕ → Bool) (ps : List ℕ) → list_any test ps ≡ true → Passes test ps
some_passes test [] e = absurd (true≢false (sym e))
some_passes test (p ∷ ps) e = by (either (test p) (list_any test ps) e) (some_passes test ps)
  where
    by : (test p ≡ true) ⊎ (list_any test ps ≡ true) → (list_any test ps ≡ true → Passes test ps) → Passes test (p ∷ ps)
    by (inl h) later = record { number = p; among = here ps; passes = h }
    by (inr h) later = let found = later h in record { number = found.number; among = there p ps found.among; passes = found.passes }

pub any_from : (test : ℕ → Bool) (q : ℕ) (ps : List ℕ) → Among q ps → test q ≡ true → list_any test ps ≡ true
any_from test q _ (here ps) e = rw e refl
any_from test q _ (there p ps a) e = or_right (test p) (list_any test ps) (any_from test q ps a e)

module _ (conditions : List Condition) (start : List Bool) where
  -- what holds of the numbers at the start, and passes on from those that a condition asks for, holds of all
  pub derived_have : (P : ℕ → Type 0) → ((n : ℕ) → marked start n ≡ true → P n)
      → ((marks : List Bool) (n : ℕ) (c : Condition) → slice_get conditions n ≡ Some c → holds marks c ≡ true → ((q : ℕ) → marked marks q ≡ true → P q) → P n)
      → (marks : List Bool) (order : List ℕ) → Derived conditions start marks order → (q : ℕ) → marked marks q ≡ true → P q
  derived_have P first pass _ _ closure.begun q h = first q h
  derived_have P first pass _ _ (closure.joined marks more order longer n d j is grown) q h =
      let before = derived_have P first pass marks order d in
      by before (marked-set marks n q (subst (λ (ms : List Bool). marked ms q ≡ true) is h))
    where
      by : ((q : ℕ) → marked marks q ≡ true → P q) → (q ≡ n) ⊎ (marked marks q ≡ true) → P q
      by before (inl e) = subst P (sym e) (pass marks n j.condition j.is j.held before)
      by before (inr h) = before q h

  -- a derived set is as long
  pub derived_long : (marks : List Bool) (order : List ℕ) → Derived conditions start marks order → length marks ≡ length start
  derived_long _ _ closure.begun = refl
  derived_long _ _ (closure.joined marks more order longer n d j is grown) = ap length is ∙ length-set marks n true ∙ derived_long marks order d

  -- what is in the set at the start stays
  pub derived_keep : length start ≡ length conditions → (marks : List Bool) (order : List ℕ) → Derived conditions start marks order → (q : ℕ)
      → marked start q ≡ true → marked marks q ≡ true
  derived_keep long _ _ closure.begun q h = h
  derived_keep long _ _ (closure.joined marks more order longer n d j is grown) q h =
      let within : n < length marks = omega (arith, slice_get_within conditions n j.condition j.is, derived_long marks order d) in
      subst (λ (ms : List Bool). marked ms q ≡ true) (sym is) (set-marked marks n q within (derived_keep long marks order d q h))
