-- What the nodes weigh that a search hasn't visited yet.
use Rattle.std.proofs.Common.{◌≡◌, ℕ, zero, suc, ◌+◌, Bool, true, false, cond, List, [], ◌∷◌, length, set, replicate, nat_le, slice_get, Some, refl, ap, sym, ◌∙◌, subst, arith}
use Rattle.cu_cycles.specs.Graph.{Graph}
use Rattle.cu_cycles.specs.Inside.Search.{AreShut, one, shut, weigh}
use Rattle.cu_cycles.specs.declared.components.Place.{Place}
use Rattle.cu_cycles.specs.declared.components.Place.TheVariants.{Closed, New, Open}

-- a node that is opened weighs no more
pub weigh_opened : (weight : List ℕ → ℕ) (g : Graph) (places : List Place) (f s : ℕ) (row : List ℕ)
    → slice_get places f ≡ Some New → slice_get g f ≡ Some row
    → weight row + weigh weight g (set places f (Open s)) ≡ weigh weight g places
weigh_opened weight [] places f s row e d = let no : ⊥ = cc in absurd no
weigh_opened weight (r ∷ g) [] f s row e d = let no : ⊥ = cc in absurd no
weigh_opened weight (r ∷ g) (New ∷ places) zero s row e d =
    let same : r ≡ row = cc in ap (λ x. weight x + weigh weight g places) (sym same)
weigh_opened weight (r ∷ g) (Open t ∷ places) zero s row e d = let no : ⊥ = cc in absurd no
weigh_opened weight (r ∷ g) (Closed c ∷ places) zero s row e d = let no : ⊥ = cc in absurd no
weigh_opened weight (r ∷ g) (New ∷ places) (suc f) s row e d =
    let rest : weight row + weigh weight g (set places f (Open s)) ≡ weigh weight g places = weigh_opened weight g places f s row e d in
    omega arith
weigh_opened weight (r ∷ g) (Open t ∷ places) (suc f) s row e d = weigh_opened weight g places f s row e d
weigh_opened weight (r ∷ g) (Closed c ∷ places) (suc f) s row e d = weigh_opened weight g places f s row e d

shut_open : (weight : List ℕ → ℕ) (r : List ℕ) (g : Graph) (places : List Place) (c s : ℕ) (b : Bool)
    → weigh weight (r ∷ g) (cond b (Closed c) (Open s) ∷ places) ≡ weigh weight g places
shut_open weight r g places c s true = refl
shut_open weight r g places c s false = refl

shut_head : (weight : List ℕ → ℕ) (r : List ℕ) (g : Graph) (start c : ℕ) (p : Place) (xs ys : List Place)
    → weigh weight g xs ≡ weigh weight g ys → weigh weight (r ∷ g) (shut start c p ∷ xs) ≡ weigh weight (r ∷ g) (p ∷ ys)
shut_head weight r g start c New xs ys e = ap (λ n. weight r + n) e
shut_head weight r g start c (Open s) xs ys e = shut_open weight r g xs c s (nat_le start s) ∙ e
shut_head weight r g start c (Closed d) xs ys e = e

-- closing changes no weight
pub weigh_shut : (weight : List ℕ → ℕ) (g : Graph) (start c : ℕ) (old new : List Place) → AreShut start c old new
    → weigh weight g new ≡ weigh weight g old
weigh_shut weight [] start c old new are = refl
weigh_shut weight (r ∷ g) start c [] [] are = refl
weigh_shut weight (r ∷ g) start c [] (y ∷ new) are = let first = are 0 in let no : ⊥ = cc in absurd no
weigh_shut weight (r ∷ g) start c (x ∷ old) [] are = let first = are 0 in let no : ⊥ = cc in absurd no
weigh_shut weight (r ∷ g) start c (x ∷ old) (y ∷ new) are =
    let first : Some y ≡ Some (shut start c x) = are 0 in
    let same : y ≡ shut start c x = cc in
    subst (λ (z : Place). weigh weight (r ∷ g) (z ∷ new) ≡ weigh weight (r ∷ g) (x ∷ old)) (sym same)
    (shut_head weight r g start c x new old (weigh_shut weight g start c old new (λ v. are (suc v))))

-- as many nodes as there are
pub weigh_all : (g : Graph) → weigh one g (replicate (length g) New) ≡ length g
weigh_all [] = refl
weigh_all (r ∷ g) = let rest : weigh one g (replicate (length g) New) ≡ length g = weigh_all g in omega arith
