-- Levels of operators above and below each other.
use Rattle.std.specs.Prelude.{◌≡◌, ◌<◌, ◌⊎◌, Bool, true, false, ◌&&◌, ◌||◌, nat_eq, nat_lt, refl}
use Rattle.std.proofs.Common.{ap, arith, sym, ◌∙◌, inl, inr, true≢false, eq-eqb, eqb-true}
use Rattle.std.proofs.lemmas.Bool.{and_parts, le-ltb, lt-ltb, ltb-true}
use Rattle.cu_fixity.specs.declared.fixity.Fixity.{Fixity}
use Rattle.cu_syntax.specs.declared.items.Side.{Side}
use Rattle.cu_syntax.specs.declared.items.Side.TheVariants.{Left, Neither, Right}
use Rattle.cu_fixity.specs.Grouping.{both, same_side}
use Rattle.cu_fixity.specs.Ranges.{is_above}

-- An operator may stand below another on this side of it.
abbrev pub Over : Side → Fixity → Fixity → Type 0
Over side f g = (f.level < g.level) ⊎ ((f.level ≡ g.level) × (f.side ≡ side) × (g.side ≡ side))

-- An operator may stand somewhere below another.
abbrev pub Near : Fixity → Fixity → Type 0
Near f g = (f.level < g.level) ⊎ ((f.level ≡ g.level) × (f.side ≡ g.side))

same_side_is : (s t : Side) → same_side s t ≡ true → s ≡ t
same_side_is Left Left e = refl
same_side_is Right Right e = refl
same_side_is Neither Neither e = refl
same_side_is Left Right e = absurd (true≢false (sym e))
same_side_is Left Neither e = absurd (true≢false (sym e))
same_side_is Right Left e = absurd (true≢false (sym e))
same_side_is Right Neither e = absurd (true≢false (sym e))
same_side_is Neither Left e = absurd (true≢false (sym e))
same_side_is Neither Right e = absurd (true≢false (sym e))

pub over_of : (side : Side) (f g : Fixity) → (nat_lt f.level g.level || both side f g) ≡ true → Over side f g
over_of side f g e = by_test (nat_lt f.level g.level) refl
  where
    equal : both side f g ≡ true → Over side f g
    equal h =
        let p = and_parts (nat_eq f.level g.level) (same_side f.side side && same_side g.side side) h in
        let q = and_parts (same_side f.side side) (same_side g.side side) p.1 in
        inr (eqb-true f.level g.level p.0, same_side_is f.side side q.0, same_side_is g.side side q.1)

    by_test : (b : Bool) → nat_lt f.level g.level ≡ b → Over side f g
    by_test true h = inl (ltb-true f.level g.level h)
    by_test false h = equal (ap (λ b. b || both side f g) (sym h) ∙ e)

pub over_near : (side : Side) (f g h : Fixity) → Over side f g → Near g h → Over side f h
over_near side f g h (inl a) (inl b) = inl (omega (arith, a, b))
over_near side f g h (inl a) (inr (b, s)) = inl (omega (arith, a, b))
over_near side f g h (inr (a, s, t)) (inl b) = inl (omega (arith, a, b))
over_near side f g h (inr (a, s, t)) (inr (b, u)) = inr (a ∙ b, s, sym u ∙ t)

pub near_over : (side : Side) (f g : Fixity) → Over side f g → Near f g
near_over side f g (inl a) = inl a
near_over side f g (inr (a, s, t)) = inr (a, s ∙ sym t)

pub near_self : (f : Fixity) → Near f f
near_self f = inr (refl, refl)

-- what stands below on the right doesn't stand above
pub not_above : (f g : Fixity) → Over Right f g → is_above g f ≡ false
not_above f g (inl a) = rw (le-ltb g.level f.level (omega (arith, a)), differ) refl
  where
    differ : nat_eq g.level f.level ≡ false
    differ = by_test (nat_eq g.level f.level) refl
      where
        by_test : (b : Bool) → nat_eq g.level f.level ≡ b → nat_eq g.level f.level ≡ false
        by_test true h = absurd (omega (arith, a, eqb-true g.level f.level h))
        by_test false h = h
not_above f g (inr (a, s, t)) = rw (le-ltb g.level f.level (omega (arith, a)), eq-eqb g.level f.level (sym a), t) refl

-- what has something below it on the left stands above that
pub above : (f g : Fixity) → Over Left f g → is_above f g ≡ true
above f g (inl a) = rw (lt-ltb f.level g.level a) refl
above f g (inr (a, s, t)) = rw (le-ltb f.level g.level (omega (arith, a)), eq-eqb f.level g.level a, s) refl
