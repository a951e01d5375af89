-- The fault that is told is one of the faults, and none stands before it.
use Rattle.std.specs.Prelude.{◌≡◌, ◌⊎◌, ◌<◌, ◌≤◌, ◌&&◌, ◌||◌, ℕ, Bool, true, false, Contains, List, [], ◌∷◌, Option, None, Some, nat_eq, nat_lt, refl}
use Rattle.std.proofs.Common.{arith, sym, subst, inl, inr}
use Rattle.std.proofs.lemmas.Bool.{and_cases, and_parts, eq-eqb, eqb-true, ltb-false, ltb-true, or_cases, or_parts}
use Rattle.cu_translation.specs.FaultOrder.{Fault, earlier, first_fault, is_before, rank}
use Rattle.cu_translation.proofs.Members.{Among, among_cons, from_among, here, none_among, there, to_among}

abbrev lex : ℕ → ℕ → ℕ → ℕ → ℕ → ℕ → Bool
lex a b c x y z = nat_lt a x || (nat_eq a x && (nat_lt b y || (nat_eq b y && nat_lt c z)))

abbrev Less : ℕ → ℕ → ℕ → ℕ → ℕ → ℕ → Type 0
Less a b c x y z = (a < x) ⊎ ((a ≡ x) × ((b < y) ⊎ ((b ≡ y) × (c < z))))

less_inner : (b c y z : ℕ) → (nat_lt b y ≡ true) ⊎ ((nat_eq b y && nat_lt c z) ≡ true) → (b < y) ⊎ ((b ≡ y) × (c < z))
less_inner b c y z (inl e) = inl (ltb-true b y e)
less_inner b c y z (inr e) =
    let parts = and_parts (nat_eq b y) (nat_lt c z) e in inr (eqb-true b y parts.0, ltb-true c z parts.1)

less_outer : (a b c x y z : ℕ) → (nat_lt a x ≡ true) ⊎ ((nat_eq a x && (nat_lt b y || (nat_eq b y && nat_lt c z))) ≡ true) → Less a b c x y z
less_outer a b c x y z (inl e) = inl (ltb-true a x e)
less_outer a b c x y z (inr e) =
    let parts = and_parts (nat_eq a x) (nat_lt b y || (nat_eq b y && nat_lt c z)) e in
    inr (eqb-true a x parts.0, less_inner b c y z (or_cases (nat_lt b y) (nat_eq b y && nat_lt c z) parts.1))

less : (a b c x y z : ℕ) → lex a b c x y z ≡ true → Less a b c x y z
less a b c x y z e = less_outer a b c x y z (or_cases (nat_lt a x) (nat_eq a x && (nat_lt b y || (nat_eq b y && nat_lt c z))) e)

-- what isn't less is at least as great
record AtLeast (a b c x y z : ℕ) : Type 0 where
  first : x ≤ a
  second : a ≡ x → y ≤ b
  third : a ≡ x → b ≡ y → z ≤ c

unequal : (a x : ℕ) → nat_eq a x ≡ false → a ≡ x → ⊥
unequal a x e h = let t = eq-eqb a x h in cc

third_inner : (b c y z : ℕ) → (nat_eq b y ≡ false) ⊎ (nat_lt c z ≡ false) → b ≡ y → z ≤ c
third_inner b c y z (inl e) h = absurd (unequal b y e h)
third_inner b c y z (inr e) h = ltb-false c z e

second_of : (a b x y : ℕ) (rest : Bool) → (nat_eq a x ≡ false) ⊎ ((nat_lt b y || rest) ≡ false) → a ≡ x → y ≤ b
second_of a b x y rest (inl e) h = absurd (unequal a x e h)
second_of a b x y rest (inr e) h = ltb-false b y (or_parts (nat_lt b y) rest e).0

third_of : (a b c x y z : ℕ) → (nat_eq a x ≡ false) ⊎ ((nat_lt b y || (nat_eq b y && nat_lt c z)) ≡ false) → a ≡ x → b ≡ y → z ≤ c
third_of a b c x y z (inl e) h k = absurd (unequal a x e h)
third_of a b c x y z (inr e) h k =
    third_inner b c y z (and_cases (nat_eq b y) (nat_lt c z) (or_parts (nat_lt b y) (nat_eq b y && nat_lt c z) e).1) k

at_least : (a b c x y z : ℕ) → lex a b c x y z ≡ false → AtLeast a b c x y z
at_least a b c x y z e =
    let parts = or_parts (nat_lt a x) (nat_eq a x && (nat_lt b y || (nat_eq b y && nat_lt c z))) e in
    let rest = and_cases (nat_eq a x) (nat_lt b y || (nat_eq b y && nat_lt c z)) parts.1 in
    record {
      first = ltb-false a x parts.0;
      second = second_of a b x y (nat_eq b y && nat_lt c z) rest;
      third = third_of a b c x y z rest;
    }

never : (b : Bool) → (b ≡ true → ⊥) → b ≡ false
never true h = absurd (h refl)
never false h = refl

-- not before itself, not before what it is before, and after what is after it
not_less_inner : (b c : ℕ) → (b < b) ⊎ ((b ≡ b) × (c < c)) → ⊥
not_less_inner b c (inl l) = omega (arith, l)
not_less_inner b c (inr p) = let l = p.1 in omega (arith, l)

not_less_itself : (a b c : ℕ) → Less a b c a b c → ⊥
not_less_itself a b c (inl l) = omega (arith, l)
not_less_itself a b c (inr p) = not_less_inner b c p.1

asymmetric_inner : (b c y z : ℕ) → (b < y) ⊎ ((b ≡ y) × (c < z)) → (y < b) ⊎ ((y ≡ b) × (z < c)) → ⊥
asymmetric_inner b c y z (inl l) (inl m) = omega (arith, l, m)
asymmetric_inner b c y z (inl l) (inr q) = let e = q.0 in omega (arith, l, e)
asymmetric_inner b c y z (inr p) (inl m) = let e = p.0 in omega (arith, e, m)
asymmetric_inner b c y z (inr p) (inr q) = let l = p.1 in let m = q.1 in omega (arith, l, m)

asymmetric : (a b c x y z : ℕ) → Less a b c x y z → Less x y z a b c → ⊥
asymmetric a b c x y z (inl l) (inl m) = omega (arith, l, m)
asymmetric a b c x y z (inl l) (inr q) = let e = q.0 in omega (arith, l, e)
asymmetric a b c x y z (inr p) (inl m) = let e = p.0 in omega (arith, e, m)
asymmetric a b c x y z (inr p) (inr q) = asymmetric_inner b c y z p.1 q.1

joined_inner : (a b c x y z p q r : ℕ) → AtLeast a b c x y z → AtLeast x y z p q r → a ≡ x → x ≡ p
    → (b < q) ⊎ ((b ≡ q) × (c < r)) → ⊥
joined_inner a b c x y z p q r m n ax xp (inl l) =
    let f = m.second ax in let g = n.second xp in omega (arith, l, f, g)
joined_inner a b c x y z p q r m n ax xp (inr e) =
    let f = m.second ax in let g = n.second xp in let h = e.0 in let l = e.1 in
    let by : b ≡ y = omega (arith, f, g, h) in
    let yq : y ≡ q = omega (arith, f, g, h) in
    let s = m.third ax by in let t = n.third xp yq in omega (arith, l, s, t)

joined : (a b c x y z p q r : ℕ) → AtLeast a b c x y z → AtLeast x y z p q r → Less a b c p q r → ⊥
joined a b c x y z p q r m n (inl l) = let f = m.first in let g = n.first in omega (arith, l, f, g)
joined a b c x y z p q r m n (inr e) =
    let f = m.first in let g = n.first in let h = e.0 in
    let ax : a ≡ x = omega (arith, f, g, h) in
    let xp : x ≡ p = omega (arith, f, g, h) in
    joined_inner a b c x y z p q r m n ax xp e.1

-- ---- faults

abbrev less_of : Fault → Fault → Type 0
less_of f g = Less f.at.line f.at.column (rank f.wrong) g.at.line g.at.column (rank g.wrong)

before : (f g : Fault) → is_before f g ≡ true → less_of f g
before f g e = less f.at.line f.at.column (rank f.wrong) g.at.line g.at.column (rank g.wrong) e

not_itself : (f : Fault) → is_before f f ≡ false
not_itself f = never (is_before f f) (λ e. not_less_itself f.at.line f.at.column (rank f.wrong) (before f f e))

not_after : (f g : Fault) → is_before g f ≡ true → is_before f g ≡ false
not_after f g e =
    never (is_before f g)
    (λ h. asymmetric g.at.line g.at.column (rank g.wrong) f.at.line f.at.column (rank f.wrong) (before g f e) (before f g h))

not_before : (h g f : Fault) → is_before h g ≡ false → is_before g f ≡ false → is_before h f ≡ false
not_before h g f d e =
    never (is_before h f)
    (λ l. joined h.at.line h.at.column (rank h.wrong) g.at.line g.at.column (rank g.wrong) f.at.line f.at.column (rank f.wrong)
    (at_least h.at.line h.at.column (rank h.wrong) g.at.line g.at.column (rank g.wrong) d)
    (at_least g.at.line g.at.column (rank g.wrong) f.at.line f.at.column (rank f.wrong) e) (before h f l))

record IsFirst (found : List Fault) (f : Fault) : Type 0 where
  listed : Among f found
  first : (g : Fault) → Among g found → is_before g f ≡ false

at_alone : (f g : Fault) → (g ≡ f) ⊎ Among g [] → is_before g f ≡ false
at_alone f g (inl e) = subst (λ h. is_before h f ≡ false) (sym e) (not_itself f)
at_alone f g (inr a) = absurd (none_among g a)

alone : (f : Fault) → IsFirst (f ∷ []) f
alone f = record { listed = here []; first = λ g a. at_alone f g (among_cons g f [] a) }

at_other : (f g h : Fault) (fs : List Fault) → IsFirst fs g → is_before g f ≡ true → (h ≡ f) ⊎ Among h fs → is_before h g ≡ false
at_other f g h fs i e (inl s) = subst (λ k. is_before k g ≡ false) (sym s) (not_after f g e)
at_other f g h fs i e (inr a) = i.first h a

at_first : (f g h : Fault) (fs : List Fault) → IsFirst fs g → is_before g f ≡ false → (h ≡ f) ⊎ Among h fs → is_before h f ≡ false
at_first f g h fs i e (inl s) = subst (λ k. is_before k f ≡ false) (sym s) (not_itself f)
at_first f g h fs i e (inr a) = not_before h g f (i.first h a) e

with_first : (f g : Fault) (fs : List Fault) → IsFirst fs g → (b : Bool) → is_before g f ≡ b → IsFirst (f ∷ fs) (earlier f (Some g))
with_first f g fs i true e =
    rw e (record { listed = there f fs i.listed; first = λ h a. at_other f g h fs i e (among_cons h f fs a) })
with_first f g fs i false e =
    rw e (record { listed = here fs; first = λ h a. at_first f g h fs i e (among_cons h f fs a) })

-- what is found among faults: the first, or that there are none
abbrev FoundAs : List Fault → Option Fault → Type 0
FoundAs found None = found ≡ []
FoundAs found (Some f) = IsFirst found f

with_others : (f : Fault) (fs : List Fault) (found : Option Fault) → FoundAs fs found → FoundAs (f ∷ fs) (Some (earlier f found))
with_others f fs None e = subst (λ gs. IsFirst (f ∷ gs) f) (sym e) (alone f)
with_others f fs (Some g) i = with_first f g fs i (is_before g f) refl

found_first : (found : List Fault) → FoundAs found (first_fault found)
found_first [] = refl
found_first (f ∷ fs) = with_others f fs (first_fault fs) (found_first fs)

pub is_listed : (found : List Fault) (f : Fault) → first_fault found ≡ Some f → Contains found f
is_listed found f e = from_among f found (subst (FoundAs found) e (found_first found)).listed

pub is_first : (found : List Fault) (f g : Fault) → first_fault found ≡ Some f → Contains found g → is_before g f ≡ false
is_first found f g e c = (subst (FoundAs found) e (found_first found)).first g (to_among g found c)

pub is_none : (found : List Fault) → first_fault found ≡ None → found ≡ []
is_none found e = subst (FoundAs found) e (found_first found)
