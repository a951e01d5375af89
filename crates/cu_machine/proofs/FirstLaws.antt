-- First, as an operation on needs, is associative, and what was looked at before changes nothing.
use Rattle.std.proofs.Common.{◌≡◌, ℕ, Bool, true, false, not, ◌&&◌, ◌||◌, List, [], ◌∷◌, ◌++◌, refl, ap, sym, ◌∙◌, cond, nat_eq, append-nil, append_assoc}
use Rattle.std.proofs.lemmas.Bool.{eq-eqb, eqb-true}
use Rattle.std.specs.List.{filter}
use Rattle.std.proofs.lemmas.List.Elements.{filter-append, filter_agree}
use Rattle.std.proofs.lemmas.List.Folds.{list_any-append}
use Rattle.std.proofs.lemmas.Map.Views.{any-filter_same}
use Rattle.cu_machine.specs.Need.{Need, At, Dead, Done, Wait, before}
use Rattle.cu_machine.specs.Places.{holds, joined}

pub or_true : (b : Bool) → (b || true) ≡ true
or_true true = refl
or_true false = refl

pub at_prefix : (x : ℕ) (xs : List ℕ) → holds (x ∷ xs) x ≡ true
at_prefix x xs = ap (λ b. b || holds xs x) (eq-eqb x x refl)

pub later_holds : (x y : ℕ) (xs : List ℕ) → holds xs y ≡ true → holds (x ∷ xs) y ≡ true
later_holds x y xs there = ap (λ b. nat_eq y x || b) there ∙ or_true (nat_eq y x)

pub at_same : (x y : ℕ) (a : List ℕ) → holds a x ≡ false → nat_eq x y ≡ true → not (holds a y) ≡ true
at_same x y a absent same = ap not (ap (holds a) (sym (eqb-true x y same)) ∙ absent)

pub filter_one : {X : Type 0} (p both q : X → Bool) (x : X) (xs : List X) (b : Bool) → filter p (filter q xs) ≡ filter both xs
    → filter p (cond b (x ∷ filter q xs) (filter q xs)) ≡ cond (b && p x) (x ∷ filter both xs) (filter both xs)
filter_one p both q x xs true same = ap (λ rest. cond (p x) (x ∷ rest) rest) same
filter_one p both q x xs false same = same

-- two filters in a row
pub filter_twice : {X : Type 0} (p q : X → Bool) (xs : List X) → filter p (filter q xs) ≡ filter (λ x. q x && p x) xs
filter_twice p q [] = refl
filter_twice p q (x ∷ xs) = filter_one p (λ y. q y && p y) q x xs (q x) (filter_twice p q xs)

pub unless_held : (h m n : Bool) → (h ≡ false → m ≡ n) → (h || m) ≡ (h || n)
unless_held true m n same = refl
unless_held false m n same = same refl

pub not_either : (a b : Bool) → not (a || b) ≡ (not b && not a)
not_either true true = refl
not_either true false = refl
not_either false true = refl
not_either false false = refl

-- who is held by joined places
pub holds_joined : (a b : List ℕ) (x : ℕ) → holds (joined a b) x ≡ (holds a x || holds b x)
holds_joined a b x =
    list_any-append (nat_eq x) a (filter (λ id. not (holds a id)) b)
    ∙ unless_held (holds a x) (holds (filter (λ id. not (holds a id)) b) x) (holds b x) (λ absent.
    any-filter_same (nat_eq x) (λ id. not (holds a id)) true (λ y same. at_same x y a absent same) b)

pub left_out : (a b c : List ℕ) → filter (λ id. not (holds (joined a b) id)) c ≡ filter (λ id. not (holds a id)) (filter (λ id. not (holds b id)) c)
left_out a b c =
    filter_agree (λ id. not (holds (joined a b) id)) (λ id. not (holds b id) && not (holds a id))
    (λ x. ap not (holds_joined a b x) ∙ not_either (holds a x) (holds b x)) c
    ∙ sym (filter_twice (λ id. not (holds a id)) (λ id. not (holds b id)) c)

pub joined_assoc : (a b c : List ℕ) → joined (joined a b) c ≡ joined a (joined b c)
joined_assoc a b c =
    let out = λ (held others : List ℕ). filter (λ id. not (holds held id)) others in
    append_assoc a (out a b) (out (joined a b) c)
    ∙ ap (λ rest. a ++ (out a b ++ rest)) (left_out a b c)
    ∙ ap (λ rest. a ++ rest) (sym (filter-append (λ id. not (holds a id)) b (out b c)))

pub none_left : (a b : List ℕ) → ((x : ℕ) → holds b x ≡ true → holds a x ≡ true) → filter (λ id. not (holds a id)) b ≡ []
none_left a [] all = refl
none_left a (x ∷ xs) all =
    ap (λ b. cond (not b) (x ∷ filter (λ id. not (holds a id)) xs) (filter (λ id. not (holds a id)) xs)) (all x (at_prefix x xs))
    ∙ none_left a xs (λ y there. all y (later_holds x y xs there))

-- what is among places adds nothing to them
pub joined_held : (a b : List ℕ) → ((x : ℕ) → holds b x ≡ true → holds a x ≡ true) → joined a b ≡ a
joined_held a b all = ap (λ rest. a ++ rest) (none_left a b all) ∙ append-nil a

pub holds_before : (a b : List ℕ) (x : ℕ) → holds a x ≡ true → holds (joined a b) x ≡ true
holds_before a b x here = rw (holds_joined a b x, here) refl

-- ---- first

pub before_assoc : (a b c : Need) → before (before a b) c ≡ before a (before b c)
before_assoc (At id) b c = refl
before_assoc Dead b c = refl
before_assoc Done b c = refl
before_assoc (Wait xs) Done c = refl
before_assoc (Wait xs) Dead c = refl
before_assoc (Wait xs) (At id) c = refl
before_assoc (Wait xs) (Wait ys) Done = refl
before_assoc (Wait xs) (Wait ys) Dead = refl
before_assoc (Wait xs) (Wait ys) (At id) = refl
before_assoc (Wait xs) (Wait ys) (Wait zs) = ap Wait (joined_assoc xs ys zs)

pub before_itself : (a : Need) → before a a ≡ a
before_itself (At id) = refl
before_itself Dead = refl
before_itself Done = refl
before_itself (Wait xs) = ap Wait (joined_held xs xs (λ x here. here))

-- a need that was met before another changes nothing when it is met again
pub before_again : (a b : Need) → before a (before b a) ≡ before a b
before_again (At id) b = refl
before_again Dead b = refl
before_again Done (At id) = refl
before_again Done Dead = refl
before_again Done Done = refl
before_again Done (Wait ys) = refl
before_again (Wait xs) (At id) = refl
before_again (Wait xs) Dead = refl
before_again (Wait xs) Done = ap Wait (joined_held xs xs (λ x here. here))
before_again (Wait xs) (Wait ys) =
    ap Wait (sym (joined_assoc xs ys xs) ∙ joined_held (joined xs ys) xs (λ x here. holds_before xs ys x here))
