-- The first fault with one more told.
use Rattle.std.proofs.Common.{◌≡◌, ◌<◌, ◌⊎◌, ◌∙◌, None, Some, ◌||◌, ◌&&◌, ℕ, Bool, true, false, List, [], ◌∷◌, ◌++◌, refl, sym, subst, arith, inl, inr, true≢false, eq-eqb, eqb-true}
use Rattle.std.proofs.lemmas.Bool.{and_parts, lt-ltb, ltb-true}
use Rattle.std.specs.Prelude.{nat_eq, nat_lt, length, slice_get}
use Rattle.cu_cycles.proofs.Lists.{get_prefix, get_last}
use Rattle.cu_cycles.proofs.Places.{prefix_or_last}
use Rattle.cu_names.specs.declared.names.NameId.{NameId}
use Rattle.cu_declared.specs.declared.found.Fault as code
use Rattle.cu_declared.specs.declared.first_fault.FirstFault.{FirstFault}
use Rattle.cu_declared.specs.TypeFaults.{Fault, is_before, rank}
use Rattle.cu_declared.specs.Inside.Told.{AreTold, FaultIsOf, IsFirst, IsFirstIf, fault_meaning}

-- ---- the order of faults

abbrev Before : Fault → Fault → Type 0
Before f g = (f.at.line < g.at.line) ⊎ ((f.at.line ≡ g.at.line) × ((f.at.column < g.at.column) ⊎ ((f.at.column ≡ g.at.column) × (rank f.wrong < rank g.wrong))))

either : {P Q : Type 0} (a b : Bool) → (a ≡ true → P) → (b ≡ true → Q) → (a || b) ≡ true → P ⊎ Q
either true b p q is = inl (p refl)
either false b p q is = inr (q is)

both : {P Q : Type 0} (a b : Bool) → (a ≡ true → P) → (b ≡ true → Q) → (a && b) ≡ true → P × Q
both a b p q is = let parts = and_parts a b is in (p parts.0, q parts.1)

before_of : (f g : Fault) → is_before f g ≡ true → Before f g
before_of f g is =
    either (nat_lt f.at.line g.at.line) _ (ltb-true f.at.line g.at.line)
    (both (nat_eq f.at.line g.at.line) _ (eqb-true f.at.line g.at.line)
    (either (nat_lt f.at.column g.at.column) _ (ltb-true f.at.column g.at.column)
    (both (nat_eq f.at.column g.at.column) _ (eqb-true f.at.column g.at.column) (ltb-true (rank f.wrong) (rank g.wrong))))) is

or_by_right : (a b : Bool) → b ≡ true → (a || b) ≡ true
or_by_right true b is = refl
or_by_right false b is = is

and_by : (a b : Bool) → a ≡ true → b ≡ true → (a && b) ≡ true
and_by a b p q = rw (p, q) refl

or_by_left : (a b : Bool) → a ≡ true → (a || b) ≡ true
or_by_left a b p = rw p refl

is_before_by : (f g : Fault) → Before f g → is_before f g ≡ true
is_before_by f g (inl l) = or_by_left (nat_lt f.at.line g.at.line) _ (lt-ltb f.at.line g.at.line l)
is_before_by f g (inr (l, inl c)) =
    or_by_right (nat_lt f.at.line g.at.line) _ (and_by (nat_eq f.at.line g.at.line) _ (eq-eqb f.at.line g.at.line l)
    (or_by_left (nat_lt f.at.column g.at.column) _ (lt-ltb f.at.column g.at.column c)))
is_before_by f g (inr (l, inr (c, r))) =
    or_by_right (nat_lt f.at.line g.at.line) _ (and_by (nat_eq f.at.line g.at.line) _ (eq-eqb f.at.line g.at.line l)
    (or_by_right (nat_lt f.at.column g.at.column) _ (and_by (nat_eq f.at.column g.at.column) _ (eq-eqb f.at.column g.at.column c)
    (lt-ltb (rank f.wrong) (rank g.wrong) r))))

before_trans : (f g h : Fault) → Before f g → Before g h → Before f h
before_trans f g h (inl a) (inl b) = inl (omega (arith, a, b))
before_trans f g h (inl a) (inr (b, c)) = inl (omega (arith, a, b))
before_trans f g h (inr (a, c)) (inl b) = inl (omega (arith, a, b))
before_trans f g h (inr (a, inl c)) (inr (b, inl d)) = inr (a ∙ b, inl (omega (arith, c, d)))
before_trans f g h (inr (a, inl c)) (inr (b, inr (d, r))) = inr (a ∙ b, inl (omega (arith, c, d)))
before_trans f g h (inr (a, inr (c, r))) (inr (b, inl d)) = inr (a ∙ b, inl (omega (arith, c, d)))
before_trans f g h (inr (a, inr (c, r))) (inr (b, inr (d, s))) = inr (a ∙ b, inr (c ∙ d, omega (arith, r, s)))

before_itself : (f : Fault) → ¬ (Before f f)
before_itself f (inl a) = omega (arith, a)
before_itself f (inr (a, inl b)) = omega (arith, b)
before_itself f (inr (a, inr (b, r))) = omega (arith, r)

false_unless : (b : Bool) → ¬ (b ≡ true) → b ≡ false
false_unless true never = absurd (never refl)
false_unless false never = refl

-- ---- one more fault

pub not_itself : (f : Fault) → is_before f f ≡ false
not_itself f = false_unless (is_before f f) (λ is. before_itself f (before_of f f is))

pub first_alone : (f : Fault) → IsFirst ([] ++ f ∷ []) f
first_alone f = record {
  place = 0;
  listed = refl;
  first = λ k g e. each k g (prefix_or_last [] f k g e);
}
  where
    each : (k : ℕ) (g : Fault) → (slice_get [] k ≡ Some g) ⊎ ((k ≡ 0) × (f ≡ g)) → is_before g f ≡ false
    each k g (inl e) = let no : ⊥ = cc in absurd no
    each k g (inr e) = subst (λ (x : Fault). is_before x f ≡ false) e.1 (not_itself f)

pub first_stays : (faults : List Fault) (f g : Fault) → IsFirst faults f → is_before g f ≡ false → IsFirst (faults ++ g ∷ []) f
first_stays faults f g is later = record {
  place = is.place;
  listed = get_prefix faults (g ∷ []) is.place f is.listed;
  first = λ k h e. each k h (prefix_or_last faults g k h e);
}
  where
    each : (k : ℕ) (h : Fault) → (slice_get faults k ≡ Some h) ⊎ ((k ≡ length faults) × (g ≡ h)) → is_before h f ≡ false
    each k h (inl e) = is.first k h e
    each k h (inr e) = subst (λ (x : Fault). is_before x f ≡ false) e.1 later

not_before : (f g h : Fault) → is_before g f ≡ true → is_before h f ≡ false → is_before h g ≡ false
not_before f g h is not_f =
    false_unless (is_before h g)
    (λ before_g. true≢false (sym (is_before_by h f (before_trans h g f (before_of h g before_g) (before_of g f is))) ∙ not_f))

pub first_changes : (faults : List Fault) (f g : Fault) → IsFirst faults f → is_before g f ≡ true → IsFirst (faults ++ g ∷ []) g
first_changes faults f g is earlier = record {
  place = length faults;
  listed = get_last faults g;
  first = λ k h e. each k h (prefix_or_last faults g k h e);
}
  where
    each : (k : ℕ) (h : Fault) → (slice_get faults k ≡ Some h) ⊎ ((k ≡ length faults) × (g ≡ h)) → is_before h g ≡ false
    each k h (inl e) = not_before f g h earlier (is.first k h e)
    each k h (inr e) = subst (λ (x : Fault). is_before x g ≡ false) e.1 (not_itself g)

-- ---- as it is told

pub told_later : (owner : NameId) (names : List (List ℕ)) (faults : List Fault) (s : FirstFault) (f g : code.Fault) → s.first ≡ Some f → AreTold owner names faults s
    → is_before (fault_meaning names g) (fault_meaning names f) ≡ false → AreTold owner names (faults ++ fault_meaning names g ∷ []) s
told_later owner names faults s f g there told later =
    let is = subst (IsFirstIf owner names faults) there told.first in
    record {
      first = subst (IsFirstIf owner names (faults ++ fault_meaning names g ∷ [])) (sym there)
          (is.0, first_stays faults (fault_meaning names f) (fault_meaning names g) is.1 later);
    }

pub told_earlier : (owner : NameId) (names : List (List ℕ)) (faults : List Fault) (s : FirstFault) (f g : code.Fault) → s.first ≡ Some f → FaultIsOf owner names g → AreTold owner names faults s
    → is_before (fault_meaning names g) (fault_meaning names f) ≡ true → AreTold owner names (faults ++ fault_meaning names g ∷ []) (record { first = Some g })
told_earlier owner names faults s f g there of told earlier =
    let is = subst (IsFirstIf owner names faults) there told.first in
    record { first = (of, first_changes faults (fault_meaning names f) (fault_meaning names g) is.1 earlier) }

pub told_alone : (owner : NameId) (names : List (List ℕ)) (faults : List Fault) (s : FirstFault) (g : code.Fault) → s.first ≡ None → FaultIsOf owner names g → AreTold owner names faults s
    → AreTold owner names (faults ++ fault_meaning names g ∷ []) (record { first = Some g })
told_alone owner names faults s g there of told =
    let none = subst (IsFirstIf owner names faults) there told.first in
    record { first = (of, subst (λ fs. IsFirst (fs ++ fault_meaning names g ∷ []) (fault_meaning names g)) (sym none) (first_alone (fault_meaning names g))) }
