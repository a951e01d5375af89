-- A variable more in rising bindings: they say what the environment with that variable says.
use Rattle.std.proofs.Common.{◌≡◌, ℕ, ◌<◌, ◌≤◌, Bool, true, false, [], ◌∷◌, if◌then◌else◌, IsTrue, subst, nat_eq, nat_lt, refl, ap, sym, ◌∙◌, arith, eqb-true, ltb-false, lt-ltb}
use Rattle.std.proofs.lemmas.Bool.{and_from, and_parts, eqb-false}
use mathlib.Core.Path.{fun_ext}
use Rattle.cu_calculus.specs.Match.{Bindings, Environment, bind, bind_all, empty}
use Rattle.cu_calculus.specs.Program.{Program}
use Rattle.cu_calculus.specs.Proof.{are_rising}
use Rattle.cu_calculus.specs.Shape.{is_of}
use Rattle.cu_calculus.specs.Value.{Value}
use Rattle.cu_calculus.proofs.OfProgram.{EnvOf, bind_all_of, bindings_of}

-- a binding before another one, in its place, or after it
abbrev pub placed : Bool → Bool → ℕ → Value → ℕ → Value → Bindings → Bindings → Bindings
placed true same x v y w rest after = (x, v) ∷ (y, w) ∷ rest
placed false true x v y w rest after = (x, v) ∷ rest
placed false false x v y w rest after = (y, w) ∷ after

abbrev pub added : ℕ → Value → Bindings → Bindings
added x v [] = (x, v) ∷ []
added x v ((y, w) ∷ rest) = placed (nat_lt x y) (nat_eq x y) x v y w rest (added x v rest)

-- several, of which the first counts
abbrev pub all_added : Bindings → Bindings → Bindings
all_added bindings [] = bindings
all_added bindings ((x, v) ∷ more) = added x v (all_added bindings more)

-- all variables of rising bindings are above a number
abbrev pub starts_above : ℕ → Bindings → Bool
starts_above y [] = true
starts_above y (b ∷ bindings) = nat_lt y b.0

rising_more : (b : ℕ × Value) (bindings : Bindings) → IsTrue (starts_above b.0 bindings) → IsTrue (are_rising bindings)
    → IsTrue (are_rising (b ∷ bindings))
rising_more b [] h k = refl
rising_more b (c ∷ bindings) h k = and_from (nat_lt b.0 c.0) (are_rising (c ∷ bindings)) h k

rising_parts : (b : ℕ × Value) (bindings : Bindings) → IsTrue (are_rising (b ∷ bindings))
    → IsTrue (starts_above b.0 bindings) × IsTrue (are_rising bindings)
rising_parts b [] h = (refl, refl)
rising_parts b (c ∷ bindings) h = and_parts (nat_lt b.0 c.0) (are_rising (c ∷ bindings)) h

added_above : (z x : ℕ) (v : Value) (bindings : Bindings) → z < x → IsTrue (starts_above z bindings) → IsTrue (starts_above z (added x v bindings))
added_above z x v [] l h = lt-ltb z x l
added_above z x v ((y, w) ∷ rest) l h = by (nat_lt x y) (nat_eq x y)
  where
    by : (a b : Bool) → IsTrue (starts_above z (placed a b x v y w rest (added x v rest)))
    by true b = lt-ltb z x l
    by false true = lt-ltb z x l
    by false false = h

pub added_rising : (x : ℕ) (v : Value) (bindings : Bindings) → IsTrue (are_rising bindings) → IsTrue (are_rising (added x v bindings))
added_rising x v [] h = refl
added_rising x v ((y, w) ∷ rest) h =
    let parts = rising_parts (y, w) rest h in
    placed_rising x v y w rest h (added_rising x v rest parts.1) (λ l. added_above y x v rest l parts.0) (nat_lt x y) (nat_eq x y) refl refl
  where
    placed_rising : (x : ℕ) (v : Value) (y : ℕ) (w : Value) (rest : Bindings) → IsTrue (are_rising ((y, w) ∷ rest))
        → IsTrue (are_rising (added x v rest)) → (y < x → IsTrue (starts_above y (added x v rest))) → (a b : Bool) → nat_lt x y ≡ a → nat_eq x y ≡ b
        → IsTrue (are_rising (placed a b x v y w rest (added x v rest)))
    placed_rising x v y w rest h k above true b e f = and_from (nat_lt x y) (are_rising ((y, w) ∷ rest)) e h
    placed_rising x v y w rest h k above false true e f =
        let same : x ≡ y = eqb-true x y f in
        let parts = rising_parts (y, w) rest h in
        rising_more (x, v) rest (subst (λ (n : ℕ). IsTrue (starts_above n rest)) (sym same) parts.0) parts.1
    placed_rising x v y w rest h k above false false e f =
        let differ : x ≡ y → ⊥ = eqb-false x y f in
        let order : y ≤ x = ltb-false x y e in
        let below : y < x = omega arith in
        rising_more (y, w) (added x v rest) (above below) k

pub added_of : (program : Program) (x : ℕ) (v : Value) (bindings : Bindings) → IsTrue (is_of program v) → IsTrue (bindings_of program bindings)
    → IsTrue (bindings_of program (added x v bindings))
added_of program x v [] h k = and_from (is_of program v) true h refl
added_of program x v ((y, w) ∷ rest) h k =
    let parts = and_parts (is_of program w) (bindings_of program rest) k in
    by (added_of program x v rest h parts.1) (nat_lt x y) (nat_eq x y)
  where
    by : IsTrue (bindings_of program (added x v rest)) → (a b : Bool) → IsTrue (bindings_of program (placed a b x v y w rest (added x v rest)))
    by m true b = and_from (is_of program v) (bindings_of program ((y, w) ∷ rest)) h k
    by m false true = and_from (is_of program v) (bindings_of program rest) h (and_parts (is_of program w) (bindings_of program rest) k).1
    by m false false =
        and_from (is_of program w) (bindings_of program (added x v rest)) (and_parts (is_of program w) (bindings_of program rest) k).0 m

-- binding a variable twice is binding it once, and different variables are bound in either order
bound_twice : (here : Bool) (v w u : Value) → (if here then v else u) ≡ (if here then v else if here then w else u)
bound_twice true v w u = refl
bound_twice false v w u = refl

in_order : (one two : Bool) (v w u : Value) → (one ≡ true → two ≡ true → ⊥)
    → (if two then w else if one then v else u) ≡ (if one then v else if two then w else u)
in_order true true v w u h = absurd (h refl refl)
in_order true false v w u h = refl
in_order false true v w u h = refl
in_order false false v w u h = refl

pub added_says : (x : ℕ) (v : Value) (bindings : Bindings) (z : ℕ) → bind_all empty (added x v bindings) z ≡ bind (bind_all empty bindings) x v z
added_says x v [] z = refl
added_says x v ((y, w) ∷ rest) z =
    placed_says x v y w rest z (added x v rest) (added_says x v rest z) (nat_lt x y) (nat_eq x y) refl
  where
    placed_says : (x : ℕ) (v : Value) (y : ℕ) (w : Value) (rest : Bindings) (z : ℕ) (after : Bindings)
        → bind_all empty after z ≡ bind (bind_all empty rest) x v z → (a b : Bool) → nat_eq x y ≡ b
        → bind_all empty (placed a b x v y w rest after) z ≡ bind (bind_all empty ((y, w) ∷ rest)) x v z
    placed_says x v y w rest z after h true b f = refl
    placed_says x v y w rest z after h false true f =
        let same : x ≡ y = eqb-true x y f in
        subst (λ (n : ℕ). bind (bind_all empty rest) x v z ≡ bind (bind_all empty ((n, w) ∷ rest)) x v z) same
        (bound_twice (nat_eq x z) v w (bind_all empty rest z))
    placed_says x v y w rest z after h false false f =
        let differ : x ≡ y → ⊥ = eqb-false x y f in
        ap (λ (u : Value). if nat_eq y z then w else u) h
        ∙ in_order (nat_eq x z) (nat_eq y z) v w (bind_all empty rest z) (λ p q. differ (eqb-true x z p ∙ sym (eqb-true y z q)))

-- Rising bindings to values of a program, which say what an environment says.
pub record Stands (program : Program) (env : Environment) (bindings : Bindings) : Type 0 where
  pub rising : IsTrue (are_rising bindings)
  pub known : IsTrue (bindings_of program bindings)
  pub says : bind_all empty bindings ≡ env

pub stands_empty : (program : Program) → Stands program empty []
stands_empty program = record { rising = refl; known = refl; says = refl }

pub stands_bind : (program : Program) (env : Environment) (bindings : Bindings) (x : ℕ) (v : Value) → Stands program env bindings
    → IsTrue (is_of program v) → Stands program (bind env x v) (added x v bindings)
stands_bind program env bindings x v h k = record {
  rising = added_rising x v bindings h.rising;
  known = added_of program x v bindings k h.known;
  says = fun_ext (added_says x v bindings) ∙ ap (λ (e : Environment). bind e x v) h.says;
}

pub stands_bind_all : (program : Program) (env : Environment) (bindings more : Bindings) → Stands program env bindings
    → IsTrue (bindings_of program more) → Stands program (bind_all env more) (all_added bindings more)
stands_bind_all program env bindings [] h k = h
stands_bind_all program env bindings ((x, v) ∷ more) h k =
    let parts = and_parts (is_of program v) (bindings_of program more) k in
    stands_bind program (bind_all env more) (all_added bindings more) x v (stands_bind_all program env bindings more h parts.1) parts.0

-- an environment for which a program's bindings stand has values of the program
pub stands_of : (program : Program) (env : Environment) (bindings : Bindings) → Stands program env bindings → EnvOf program env
stands_of program env bindings h x =
    subst (λ (e : Environment). IsTrue (is_of program (e x))) h.says (bind_all_of program empty bindings (λ y. refl) h.known x)
