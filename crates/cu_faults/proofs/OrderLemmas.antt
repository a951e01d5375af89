-- The first of several faults and one more.
use Rattle.std.proofs.Common.{◌≡◌, ◌∙◌, ◌&&◌, ◌||◌, ℕ, Bool, true, false, List, [], ◌∷◌, ◌++◌, Option, None, Some, refl, sym, ap, ap₂, arith, if◌then◌else◌}
use Rattle.std.proofs.lemmas.Bool.Decides.{nat_tests}
use Rattle.std.specs.Prelude.{nat_eq, nat_lt}
use Rattle.cu_lex.specs.Located.{Position}
use Rattle.cu_translation.specs.FaultOrder.{Arity, Fault, FixityClash, NonLinear, RecursiveLocal, SetName, TooLong, Wrong, earlier, fault, first_fault, is_before, rank}

-- ---- numbers in their order

abbrev lex : ℕ → ℕ → ℕ → ℕ → ℕ → ℕ → Bool
lex a b c x y z = nat_lt a x || (nat_eq a x && (nat_lt b y || (nat_eq b y && nat_lt c z)))

both_ways : (a b c x y z : ℕ) → lex a b c x y z ≡ true → lex x y z a b c ≡ true → ⊥
both_ways a b c x y z p q = grind (arith, nat_tests)

neither_way : (a b c x y z : ℕ) → lex a b c x y z ≡ false → lex x y z a b c ≡ false → (a ≡ x) × ((b ≡ y) × (c ≡ z))
neither_way a b c x y z p q = grind (arith, nat_tests)

passed_over : (a b c p q r x y z : ℕ) → lex a b c x y z ≡ true → lex a b c p q r ≡ false → lex p q r x y z ≡ true
passed_over a b c p q r x y z h k = grind (arith, nat_tests)

-- ---- faults

wrong_of : ℕ → Wrong
wrong_of n =
    if nat_eq n 7 then FixityClash else if nat_eq n 15 then Arity else if nat_eq n 16 then NonLinear
    else if nat_eq n 17 then RecursiveLocal else if nat_eq n 18 then SetName else TooLong

ranked : (w : Wrong) → wrong_of (rank w) ≡ w
unfolding wrong_of
ranked FixityClash = refl
ranked Arity = refl
ranked NonLinear = refl
ranked RecursiveLocal = refl
ranked SetName = refl
ranked TooLong = refl

abbrev placed : ℕ → ℕ → Position
placed line column = record { line = line; column = column }

same_fault : (f g : Fault) → is_before f g ≡ false → is_before g f ≡ false → f ≡ g
same_fault f g p q =
    let same = neither_way f.at.line f.at.column (rank f.wrong) g.at.line g.at.column (rank g.wrong) p q in
    let wrong : f.wrong ≡ g.wrong = sym (ranked f.wrong) ∙ ap wrong_of same.1.1 ∙ ranked g.wrong in
    ap₂ fault wrong (ap₂ placed same.0 same.1.0)

turned_by : (f g : Fault) (a b : Bool) → is_before g f ≡ a → is_before f g ≡ b → (if a then g else f) ≡ (if b then f else g)
turned_by f g true true p q =
    absurd (both_ways g.at.line g.at.column (rank g.wrong) f.at.line f.at.column (rank f.wrong) p q)
turned_by f g true false p q = refl
turned_by f g false true p q = refl
turned_by f g false false p q = same_fault f g q p

turned : (f g : Fault) → earlier f (Some g) ≡ earlier g (Some f)
turned f g = turned_by f g (is_before g f) (is_before f g) refl refl

over_by : (f g h : Fault) (a b : Bool) → is_before h f ≡ a → is_before h g ≡ b
    → earlier g (Some (if a then h else f)) ≡ earlier f (Some (if b then h else g))
over_by f g h true true p q = rw (p, q) refl
over_by f g h true false p q =
    let after : is_before g f ≡ true =
    passed_over h.at.line h.at.column (rank h.wrong) g.at.line g.at.column (rank g.wrong) f.at.line f.at.column (rank f.wrong) p q in
    rw (q, after) refl
over_by f g h false true p q =
    let after : is_before f g ≡ true =
    passed_over h.at.line h.at.column (rank h.wrong) f.at.line f.at.column (rank f.wrong) g.at.line g.at.column (rank g.wrong) q p in
    rw (p, after) refl
over_by f g h false false p q = turned g f

over : (f g : Fault) (found : Option Fault) → earlier g (Some (earlier f found)) ≡ earlier f (Some (earlier g found))
over f g None = turned g f
over f g (Some h) = over_by f g h (is_before h f) (is_before h g) refl refl

pub one_more : (faults : List Fault) (f : Fault) → first_fault (faults ++ f ∷ []) ≡ Some (earlier f (first_fault faults))
one_more [] f = refl
one_more (g ∷ faults) f =
    ap (λ found. Some (earlier g found)) (one_more faults f) ∙ ap Some (over f g (first_fault faults))
