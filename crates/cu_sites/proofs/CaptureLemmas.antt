-- How captured variables are found, one variable after another.
use Rattle.std.proofs.Common.{◌≡◌, ◌∙◌, ◌<◌, ◌≤◌, ◌+◌, ◌↔◌, ◌⊎◌, inl, inr, ℕ, Bool, true, false, ◌&&◌, ◌||◌, List, [], ◌∷◌, ◌++◌, Option, arith, length, map, refl, sym, ap, subst}
use Rattle.std.proofs.lemmas.Bool.{and_from, and_parts, cases_lt, eq-eqb, eqb-true, or_cases, or_left, or_right}
use Rattle.std.proofs.lemmas.List.Folds.{list_any-append}
use Rattle.std.proofs.lemmas.Option.{slice_get_past}
use Rattle.std.specs.Prelude.{nat_eq}
use Rattle.std.specs.List.{list_any}
use Rattle.cu_sites.specs.Depending.{is_in, keys_in, row}
use Rattle.cu_sites.specs.declared.captures.Graph.{Graph}
use Rattle.cu_sites.specs.declared.relations.Relation.{Relation}
use Rattle.cu_sites.specs.Inside.Capturing.{IsCaptured}
use Rattle.cu_sites.specs.Inside.Relating as relating
use Rattle.cu_sites.specs.Inside.Relating.{Gains, Holds, Pair, Reaches, is_pair, pair, pair_to}
use Rattle.cu_sites.proofs.RelationLemmas.{Row, before_or_not}

abbrev pub Captured : Graph → ℕ → ℕ → Type 0
Captured g v f = Reaches g.users (row g.uses v) (row g.binds v) f

-- The functions that capture the first variables were found.
pub record CapturedBelow (n : ℕ) (g : Graph) (done : ℕ) (c : Relation) : Type 0 where
  pub pairs : List Pair
  pub holds : Holds n pairs c
  pub sound : (f v : ℕ) → list_any (is_pair f v) pairs ≡ true → Captured g v f
  pub all : (f v : ℕ) → v < done → Captured g v f → list_any (is_pair f v) pairs ≡ true

pub captured_none : (n : ℕ) (g : Graph) (c : Relation) → Holds n [] c → CapturedBelow n g 0 c
captured_none n g c h = record {
  pairs = [];
  holds = h;
  sound = λ f v e. let no : ⊥ = cc in absurd no;
  all = λ f v low. absurd (omega (arith, low));
}

-- those that capture one more
to_pairs : (v f w : ℕ) (found : List ℕ) → list_any (is_pair f w) (map (pair_to v) found) ≡ (is_in found f && nat_eq w v)
to_pairs v f w [] = refl
to_pairs v f w (k ∷ found) = ap (λ b. (nat_eq f k && nat_eq w v) || b) (to_pairs v f w found) ∙ spread (nat_eq f k) (nat_eq w v) (is_in found f)
  where
    spread : (a b c : Bool) → ((a && b) || (c && b)) ≡ ((a || c) && b)
    spread true true c = refl
    spread true false true = refl
    spread true false false = refl
    spread false b c = refl

pub captured_more : (n : ℕ) (g : Graph) (done : ℕ) (c d : Relation) (found : List ℕ) → CapturedBelow n g done c
    → ((k : ℕ) → (is_in found k ≡ true) ↔ Captured g done k) → Gains (map (pair_to done) found) c d → CapturedBelow n g (done + 1) d
captured_more n g done c d found before is gains = record {
  pairs = before.pairs ++ map (pair_to done) found;
  holds = gains n before.pairs before.holds;
  sound = λ f v e. sound f v (or_cases (list_any (is_pair f v) before.pairs) (list_any (is_pair f v) (map (pair_to done) found)) (sym (split f v) ∙ e));
  all = λ f v low h. split f v ∙ all f v (before_or_not v done low) h;
}
  where
    split : (f v : ℕ) → list_any (is_pair f v) (before.pairs ++ map (pair_to done) found)
        ≡ (list_any (is_pair f v) before.pairs || list_any (is_pair f v) (map (pair_to done) found))
    split f v = list_any-append (is_pair f v) before.pairs (map (pair_to done) found)

    sound : (f v : ℕ) → (list_any (is_pair f v) before.pairs ≡ true) ⊎ (list_any (is_pair f v) (map (pair_to done) found) ≡ true) → Captured g v f
    sound f v (inl e) = before.sound f v e
    sound f v (inr e) =
        let parts = and_parts (is_in found f) (nat_eq v done) (sym (to_pairs done f v found) ∙ e) in
        subst (λ (w : ℕ). Captured g w f) (sym (eqb-true v done parts.1)) ((is f).0 parts.0)

    all : (f v : ℕ) → (v < done) ⊎ (v ≡ done) → Captured g v f
        → (list_any (is_pair f v) before.pairs || list_any (is_pair f v) (map (pair_to done) found)) ≡ true
    all f v (inl low) h = or_left (list_any (is_pair f v) before.pairs) (list_any (is_pair f v) (map (pair_to done) found)) (before.all f v low h)
    all f v (inr same) h =
        or_right (list_any (is_pair f v) before.pairs) (list_any (is_pair f v) (map (pair_to done) found))
        (to_pairs done f v found
        ∙ and_from (is_in found f) (nat_eq v done) ((is f).1 (subst (λ (w : ℕ). Captured g w f) same h)) (eq-eqb v done same))

-- a variable past the last is captured by none
none_past : (g : Graph) (v f : ℕ) → length g.uses.rows.items ≤ v → Captured g v f → ⊥
none_past g v _ past (relating.begin k e free) =
    let none : is_in (row g.uses v) k ≡ false = ap (λ (o : Option Row). is_in (keys_in o) k) (slice_get_past g.uses.rows.items v past) in
    let no : ⊥ = cc in no
none_past g v _ past (relating.further j k from e free) = none_past g v j past from

pub captured_all : (n : ℕ) (g : Graph) (done : ℕ) (c : Relation) → CapturedBelow n g done c → length g.uses.rows.items ≤ done → IsCaptured n g c
captured_all n g done c before past = record {
  sized = before.holds.sized;
  exact = λ f v low. (
    λ e. before.sound f v (sym (before.holds.exact f v low) ∙ e),
    λ h. before.holds.exact f v low ∙ all f v h (cases_lt v done),
  );
}
  where
    all : (f v : ℕ) → Captured g v f → (v < done) ⊎ (done ≤ v) → list_any (is_pair f v) before.pairs ≡ true
    all f v h (inl low) = before.all f v low h
    all f v h (inr high) = absurd (none_past g v f (omega (arith, past, high)) h)

-- what is reached from the uses of a variable
pub reached_as : (g : Graph) (v : ℕ) (found seeds shut : List ℕ) → seeds ≡ row g.uses v → shut ≡ row g.binds v
    → ((k : ℕ) → (is_in found k ≡ true) ↔ Reaches g.users seeds shut k) → (k : ℕ) → (is_in found k ≡ true) ↔ Captured g v k
reached_as g v found seeds shut e f is =
    subst (λ (xs : List ℕ). (k : ℕ) → (is_in found k ≡ true) ↔ Reaches g.users (row g.uses v) xs k) f
    (subst (λ (xs : List ℕ). (k : ℕ) → (is_in found k ≡ true) ↔ Reaches g.users xs shut k) e is)
